-- The form of plain fields: printable bytes, no space at either end, and for the directionals one of eight words.
-- The empty text has it: a field may be missing. Assumes nothing.
use Rattle.std.specs.Prelude.{◌≡◌, ℕ, ◌≤◌, Bool, true, false, not, ◌&&◌, ◌||◌, ◌≢◌, ◌⊎◌, List, [], ◌∷◌, ◌++◌, length, codes, ◌==◌, nat_eq, nat_le}
use Rattle.std.specs.List.{All, Contains, ends_with, list_all, list_any, starts_with}
use Rattle.text.specs.Bytes.{IsPrintableByte, is_printable_byte, same_bytes}
use Rattle.text.specs.Widths.{width_of}
use Rattle.text.specs.declared.field_text.TextField.{TextField}
use Rattle.text.specs.declared.field_text.TextField.TheVariants.{PreDirectional, PostDirectional}

unfoldable pub directions : List (List ℕ)
directions =
    codes "North" ∷ codes "South" ∷ codes "East" ∷ codes "West"
    ∷ codes "Northeast" ∷ codes "Northwest" ∷ codes "Southeast" ∷ codes "Southwest" ∷ []

abbrev pub is_directional : TextField → Bool
is_directional PreDirectional = true
is_directional PostDirectional = true
is_directional _ = false

-- the text is one of the words
abbrev pub one_of : List (List ℕ) → List ℕ → Bool
one_of words text = list_any (λ word. same_bytes word text) words

-- no space first, none last, within the width, and printable
abbrev pub is_plain_text : ℕ → List ℕ → Bool
is_plain_text width text =
    (not (starts_with nat_eq text (codes " ")) && not (ends_with nat_eq text (codes " ")))
    && (nat_le (length text) width && list_all is_printable_byte text)

-- a directional is missing, or one of the eight words
abbrev pub is_directed : TextField → List ℕ → Bool
is_directed field text = not (is_directional field) || (length text == 0 || one_of directions text)

unfoldable pub is_field_text : TextField → List ℕ → Bool
is_field_text field text = is_directed field text && is_plain_text (width_of field) text

-- the text has the field's form
pub record FieldText (field : TextField) (text : List ℕ) : Type 0 where
  pub printable : All IsPrintableByte text
  pub within : length text ≤ width_of field
  pub no_first_space : (rest : List ℕ) → text ≢ 32 ∷ rest
  pub no_last_space : (front : List ℕ) → text ≢ front ++ (32 ∷ [])
  pub direction : is_directional field ≡ true → (text ≡ []) ⊎ Contains directions text
