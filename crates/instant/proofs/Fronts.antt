-- How a text begins, by its first bytes.
use Rattle.std.proofs.Common.{◌≡◌, ℕ, ◌&&◌, true, List, [], ◌∷◌, length, take, drop, refl, arith, nat_le, nat_eq, slice_index}
use Rattle.std.proofs.lemmas.Bool.Decides.{nat_tests}
use Rattle.instant.specs.Form.{fits, has_form}

-- the text is one byte
pub one_alone : (mark : ℕ) (text : List ℕ) → has_form (mark ∷ []) text ≡ (nat_eq (length text) 1 && fits mark (slice_index text 0))
unfolding has_form
one_alone mark [] = refl
one_alone mark (byte ∷ []) = grind (arith, nat_tests)
one_alone mark (byte ∷ second ∷ text) = grind (arith, nat_tests)

pub one_before : (mark : ℕ) (text : List ℕ) → has_form (mark ∷ []) (take 1 text) ≡ (nat_le 1 (length text) && fits mark (slice_index text 0))
unfolding has_form
one_before mark [] = refl
one_before mark (byte ∷ text) = grind (arith, nat_tests)

pub two_before : (mark second : ℕ) (text : List ℕ) → has_form (mark ∷ second ∷ []) (take 2 text) ≡ (nat_le 2 (length text) && (fits mark (slice_index text 0) && fits second (slice_index text 1)))
unfolding has_form
two_before mark second [] = refl
two_before mark second (byte ∷ []) = grind (arith, nat_tests)
two_before mark second (byte ∷ after ∷ text) = grind (arith, nat_tests)

-- the bytes of a text that is one byte, or begins with one
module _ (mark : ℕ) (ne : mark ≡ 48 → ⊥) where
  pub byte_alone : (text : List ℕ) → has_form (mark ∷ []) text ≡ true → text ≡ mark ∷ []
  unfolding has_form
  byte_alone [] h = grind arith
  byte_alone (byte ∷ []) h = grind (arith, nat_tests)
  byte_alone (byte ∷ second ∷ text) h = grind (arith, nat_tests)

  pub byte_before : (text : List ℕ) → has_form (mark ∷ []) (take 1 text) ≡ true → text ≡ mark ∷ drop 1 text
  unfolding has_form
  byte_before [] h = grind arith
  byte_before (byte ∷ text) h = grind (arith, nat_tests)
