-- The test of a field's text decides its form.
use Rattle.std.proofs.Common.{◌≡◌, ℕ, ◌-◌, Bool, true, false, not, ◌||◌, List, ◌++◌, length, take, drop, codes, nat_eq, Decides, refl, ap}
use Rattle.std.specs.List.{Contains, ends_with, starts_with}
use Rattle.std.proofs.lemmas.List.{nil_from_length}
use Rattle.std.proofs.lemmas.List.Elements.{Decides-contains}
use Rattle.std.proofs.lemmas.Slice.Eq.{ends_is, starts_is}
use Rattle.std.proofs.lemmas.Bool.{eq-eqb, eqb-true, false≢true, le-leb, leb-true}
use Rattle.std.proofs.lemmas.Bool.Decides.{Decides-and, Decides-by_or, Decides-eqb, Decides-like, Decides-or, Decides-not}
use Rattle.text.proofs.ByteLaws.{printable_decides, same_bytes_decides}
use Rattle.text.specs.Bytes.{same_bytes}
use Rattle.text.specs.FieldText.{FieldText, directions, is_field_text, one_of}
use Rattle.text.specs.declared.field_text.TextField.{TextField}

begins_decides : (text : List ℕ) → Decides (starts_with nat_eq text (codes " ")) ((rest : List ℕ) × (text ≡ codes " " ++ rest))
begins_decides text =
    let told = starts_is Decides-eqb text (codes " ") _ refl in
    (λ h. (drop 1 text, told.0 h), λ h. told.1 h.0 h.1)

ends_decides : (text : List ℕ) → Decides (ends_with nat_eq text (codes " ")) ((front : List ℕ) × (text ≡ front ++ codes " "))
ends_decides text =
    let told = ends_is Decides-eqb text (codes " ") _ refl in
    (λ h. (take (length text - 1) text, told.0 h), λ h. told.1 h.0 h.1)

one_of_decides : (words : List (List ℕ)) (text : List ℕ) → Decides (one_of words text) (Contains words text)
one_of_decides words text =
    Decides-contains words text _
    (Decides-by_or (λ word. same_bytes word text) (λ word. word ≡ text) (λ ws. one_of ws text)
    (λ word. same_bytes_decides word text) refl (λ _ _. refl) words)

if_decides : {P : Type 0} (d t : Bool) → Decides t P → Decides (not d || t) (d ≡ true → P)
if_decides true t told = Decides-like t (λ p _. p) (λ f. f refl) told
if_decides false t told = (λ _ e. absurd (false≢true e), λ _. refl)

pub field_decides : (field : TextField) (text : List ℕ) → Decides (is_field_text field text) (FieldText field text)
unfolding is_field_text
field_decides field text =
    Decides-like _
    (λ p.
    record {
      printable = p.1.1.1;
      within = p.1.1.0;
      no_first_space = λ rest e. p.1.0.0 (rest, e);
      no_last_space = λ front e. p.1.0.1 (front, e);
      direction = p.0;
    })
    (λ f.
    (f.direction, (((λ h. f.no_first_space h.0 h.1), (λ h. f.no_last_space h.0 h.1)), (f.within, f.printable))))
    (Decides-and _ _
    (if_decides _ _ (Decides-or _ _ (λ h. nil_from_length text (eqb-true _ _ h), λ e. eq-eqb _ _ (ap length e)) (one_of_decides directions text)))
    (Decides-and _ _
    (Decides-and _ _ (Decides-not _ (begins_decides text)) (Decides-not _ (ends_decides text)))
    (Decides-and _ _ (leb-true _ _, le-leb _ _) (printable_decides text))))
