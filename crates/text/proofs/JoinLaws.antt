-- Joining elements one after another: what comes of it, and that it fits.
use Rattle.std.proofs.Common.{◌≡◌, ℕ, suc, ◌+◌, ◌-◌, ◌<◌, ◌≤◌, true, false, List, [], ◌∷◌, ◌++◌, length, get_or, take, drop, is_some, Some, None, filter, Option, sym, refl, ap, ◌∙◌, append_assoc, arith, Bor}
use Rattle.std.specs.List.{flat_map, fold, join_with_byte}
use Rattle.std.specs.Option.{option_map}
use Rattle.std.proofs.Math.Seq.{split_at}
use Rattle.std.proofs.lemmas.List.{append-nil, length-append, map-append}
use Rattle.std.proofs.lemmas.List.Sums.{fold-append}
use Rattle.std.proofs.lemmas.Bool.{le-leb, leb-false, lt-leb}
use Rattle.text.specs.FullNames.{Joins, Within, all_fit, fits, full_name, joined, name_elements, name_of, name_with, present, pushed, separator, texts_of}
use Rattle.text.specs.Widths.{full_name_width, width_of}
use Rattle.text.specs.declared.full_name.FullName.{FullName}
use Rattle.text.specs.declared.field_text.TextField.{TextField}

-- the name with the elements, one after another, however long
abbrev pub grown : List ℕ → List (List ℕ) → List ℕ
grown name elements = fold name_with name elements

-- each element after a space
abbrev tails : List (List ℕ) → List ℕ
tails elements = flat_map (λ element. 32 ∷ element) elements

spaced_tails : (element : List ℕ) (elements : List (List ℕ)) → join_with_byte 32 (element ∷ elements) ≡ element ++ tails elements
spaced_tails element [] = sym (append-nil element)
spaced_tails element (other ∷ others) = ap (λ rest. element ++ (32 ∷ rest)) (spaced_tails other others)

grown_tails : (b : ℕ) (bs : List ℕ) (elements : List (List ℕ))
    → grown (b ∷ bs) elements ≡ (b ∷ bs) ++ tails (filter present elements)
grown_tails b bs [] = sym (append-nil (b ∷ bs))
grown_tails b bs ([] ∷ elements) = rw append-nil (grown_tails b bs elements)
grown_tails b bs ((x ∷ xs) ∷ elements) =
    grown_tails b (bs ++ (32 ∷ (x ∷ xs))) elements ∙ append_assoc (b ∷ bs) (32 ∷ (x ∷ xs)) (tails (filter present elements))

pub grown_joined : (elements : List (List ℕ)) → grown [] elements ≡ joined elements
unfolding joined
grown_joined [] = refl
grown_joined ([] ∷ elements) = grown_joined elements
grown_joined ((x ∷ xs) ∷ elements) = grown_tails x xs elements ∙ sym (spaced_tails (x ∷ xs) (filter present elements))

pub grows : (name : List ℕ) (elements : List (List ℕ)) → length name ≤ length (grown name elements)
grows name [] = omega arith
grows name (element ∷ elements) =
    omega (arith, grows (name_with name element) elements, length-append name (separator name element ++ element))

pushes : (name : List ℕ) (elements : List (List ℕ)) → length (grown name elements) ≤ full_name_width
    → (all_fit name elements ≡ true) × (fold pushed name elements ≡ grown name elements)
unfolding all_fit
pushes name [] short = (refl, refl)
pushes name (element ∷ elements) short =
    let fit : fits name element ≡ true = le-leb _ _ (omega (arith, grows (name_with name element) elements)) in
    rw fit (pushes (name_with name element) elements short)

pub joins : Joins
joins elements short = rw (← grown_joined elements) (pushes [] elements (rw (grown_joined elements) short))

-- the widths, each with a byte more
total : List TextField → ℕ
total [] = 0
total (field ∷ fields) = width_of field + 1 + total fields

tails_within : (fields : List TextField) (elements : List (List ℕ)) → Within fields elements
    → length (tails (filter present elements)) ≤ total fields
unfolding total
tails_within [] [] within = omega arith
tails_within [] (element ∷ elements) within = absurd within
tails_within (field ∷ fields) [] within = absurd within
tails_within (field ∷ fields) ([] ∷ elements) within = omega (arith, tails_within fields elements within.1)
tails_within (field ∷ fields) ((x ∷ xs) ∷ elements) within =
    omega (arith, tails_within fields elements within.1, length-append (x ∷ xs) (tails (filter present elements)))

spaced_short : (elements : List (List ℕ)) → length (join_with_byte 32 elements) ≤ length (tails elements) - 1
spaced_short [] = omega arith
spaced_short (element ∷ elements) = omega (arith, ap length (spaced_tails element elements))

pub within_fits : (elements : List (List ℕ)) → Within name_elements elements → length (joined elements) ≤ full_name_width
unfolding joined total
within_fits elements within =
    omega (arith, spaced_short (filter present elements), tails_within name_elements elements within)

-- an element that does not fit, after those before it, leaves the elements too long together; else the name is whole
pub stopped : (elements : List (Bor (List ℕ))) (i : ℕ) (d : Bor (List ℕ)) → i < length elements
    → false ≡ fits (grown [] (texts_of (take i elements))) (get_or elements i d).now → None ≡ full_name (texts_of elements)
unfolding full_name
stopped elements i d h past =
    let before = grown [] (texts_of (take i elements)) in
    let element = (get_or elements i d).now in
    let rest = texts_of (drop (suc i) elements) in
    let parts : grown [] (texts_of elements) ≡ grown (name_with before element) rest =
    ap (λ es. grown [] (texts_of es)) (split_at elements i d h) ∙ simp (map-append, fold-append) in
    rw
    (lt-leb (length (joined (texts_of elements))) full_name_width
    (omega (
      arith,
      leb-false (length (name_with before element)) full_name_width (sym past),
      grows (name_with before element) rest,
      ap length parts,
      ap length (grown_joined (texts_of elements)),
    )))
    refl

pub whole : (elements : List (List ℕ)) (name : List ℕ) → name ≡ grown [] elements → length name ≤ full_name_width
    → Some name ≡ full_name elements
unfolding full_name
whole elements name is short = rw (← grown_joined elements, ← is, le-leb (length name) full_name_width short) refl

pub some_within : (r : Option FullName) (elements : List (List ℕ)) → option_map name_of r ≡ full_name elements
    → Within name_elements elements → is_some r ≡ true
unfolding full_name
some_within (Some full) elements is within = refl
some_within None elements is within =
    let fit = le-leb (length (joined elements)) full_name_width (within_fits elements within) in
    let told = rw fit at is in cc
