-- What it takes to have a form.
use Rattle.std.proofs.Common.{◌≡◌, ◌==◌, ◌&&◌, ℕ, zero, suc, ◌+◌, ◌*◌, ◌/◌, ◌%◌, ◌<◌, ◌≤◌, true, List, [], ◌∷◌, length, get_or, refl, arith}
use Rattle.std.specs.List.{list_all, zip}
use Rattle.std.proofs.lemmas.Bool.Decides.{nat_tests}
use Rattle.instant.specs.Form.{fits, has_form, one_digit, two_digits}

pub form_by_bytes : (form text : List ℕ) → has_form form text ≡ (length form == length text && list_all (λ p. fits p.0 p.1) (zip form text))
unfolding has_form
form_by_bytes [] [] = refl
form_by_bytes [] (byte ∷ text) = grind (arith, nat_tests)
form_by_bytes (mark ∷ form) [] = grind (arith, nat_tests)
form_by_bytes (mark ∷ form) (byte ∷ text) = rw (form_by_bytes form text) (grind (arith, nat_tests))

fits_at : (form text : List ℕ) → has_form form text ≡ true → (i : ℕ) → i < length form → fits (get_or form i 0) (get_or text i 0) ≡ true
unfolding has_form
fits_at [] text h i k = grind arith
fits_at (mark ∷ form) [] h i k = grind arith
fits_at (mark ∷ form) (byte ∷ text) h zero k = grind arith
fits_at (mark ∷ form) (byte ∷ text) h (suc i) k = fits_at form text (grind arith) i (omega arith)

-- what stands in a text that has a form
module _ (form text : List ℕ) (h : has_form form text ≡ true) where
  pub form_length : length text ≡ length form
  form_length = grind (arith, nat_tests, form_by_bytes)

  pub mark_at : (i : ℕ) → i < length form → (get_or form i 0 ≡ 48 → ⊥) → get_or text i 0 ≡ get_or form i 0
  mark_at i k ne = let fit = fits_at form text h i k in grind (arith, nat_tests)

  pub digit_at : (i : ℕ) → i < length form → get_or form i 0 ≡ 48 → (48 ≤ get_or text i 0) × (get_or text i 0 ≤ 57)
  digit_at i k e = let fit = fits_at form text h i k in grind (arith, nat_tests)

  module _ (i : ℕ) (k : i + 1 < length form) (e : get_or form i 0 ≡ 48) (f : get_or form (i + 1) 0 ≡ 48) where
    pub two_lt : two_digits text i < 100
    two_lt = omega (arith, digit_at i (omega arith) e, digit_at (i + 1) k f)

    pub pair_at : (n more : ℕ) → n ≡ 100 * more + two_digits text i → (get_or text i 0 ≡ 48 + n / 10 % 10) × (get_or text (i + 1) 0 ≡ 48 + n % 10)
    pair_at n more same =
        let tens = digit_at i (omega arith) e in
        let units = digit_at (i + 1) k f in
        let tenth : n / 10 ≡ 10 * more + one_digit text i = omega arith in
        (rw tenth (omega arith), omega arith)

    pub two_at : (get_or text i 0 ≡ 48 + two_digits text i / 10 % 10) × (get_or text (i + 1) 0 ≡ 48 + two_digits text i % 10)
    two_at = pair_at (two_digits text i) 0 (omega arith)
