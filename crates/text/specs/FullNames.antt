-- Full names: the elements of a street's name that are present, joined by one space. Assumes nothing.
use Rattle.std.specs.Prelude.{◌≡◌, ℕ, ◌≤◌, Bool, true, false, cond, ◌&&◌, List, [], ◌∷◌, ◌++◌, map, length, Some, None, filter, Option, nat_le}
use Rattle.std.specs.Borrow.{Bor}
use Rattle.std.specs.List.{fold, join_with_byte}
use Rattle.text.specs.Widths.{full_name_width, width_of}
use Rattle.text.specs.declared.field_text.TextField.{TextField}
use Rattle.text.specs.declared.field_text.TextField.TheVariants.{PreModifier, PreDirectional, PreType, PreSeparator, StreetName, PostType, PostDirectional, PostModifier}
use Rattle.text.specs.declared.full_name.FullName.{FullName}

-- the name that a full name holds
abbrev pub name_of : FullName → List ℕ
name_of full = full.bytes.items

abbrev pub present : List ℕ → Bool
present [] = false
present (byte ∷ bytes) = true

-- the elements that are present, joined by one space
unfoldable pub joined : List (List ℕ) → List ℕ
joined elements = join_with_byte 32 (filter present elements)

-- the texts that are lent
abbrev pub texts_of : List (Bor (List ℕ)) → List (List ℕ)
texts_of lent = map (λ x. x.now) lent

-- one space where both are present
abbrev pub separator : List ℕ → List ℕ → List ℕ
separator name element = cond (present name && present element) (32 ∷ []) []

-- the name with one element more
abbrev pub name_with : List ℕ → List ℕ → List ℕ
name_with name element = name ++ (separator name element ++ element)

-- whether it fits, and the name after it was pushed: where it does not fit, as before
abbrev pub fits : List ℕ → List ℕ → Bool
fits name element = nat_le (length (name_with name element)) full_name_width

abbrev pub pushed : List ℕ → List ℕ → List ℕ
pushed name element = cond (fits name element) (name_with name element) name

-- whether each of the elements fits, where those before it were pushed
unfoldable pub all_fit : List ℕ → List (List ℕ) → Bool
all_fit name [] = true
all_fit name (element ∷ elements) = fits name element && all_fit (pushed name element) elements

-- pushing one after another gives the elements joined, whenever that fits
abbrev pub Joins : Type 0
Joins =
    (elements : List (List ℕ)) → length (joined elements) ≤ full_name_width
    → (all_fit [] elements ≡ true) × (fold pushed [] elements ≡ joined elements)

-- the full name of the elements, if it fits
unfoldable pub full_name : List (List ℕ) → Option (List ℕ)
full_name elements = cond (nat_le (length (joined elements)) full_name_width) (Some (joined elements)) None

-- the elements of a street's name, in order
abbrev pub name_elements : List TextField
name_elements =
    PreModifier ∷ (PreDirectional ∷ (PreType ∷ (PreSeparator ∷ (StreetName ∷ (PostType ∷ (PostDirectional ∷ (PostModifier ∷ [])))))))

-- each text is within its field's width
abbrev pub Within : List TextField → List (List ℕ) → Type 0
Within [] [] = Unit {0}
Within [] (text ∷ texts) = ⊥
Within (field ∷ fields) [] = ⊥
Within (field ∷ fields) (text ∷ texts) = (length text ≤ width_of field) × Within fields texts
