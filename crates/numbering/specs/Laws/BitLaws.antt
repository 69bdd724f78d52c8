-- The bits of a number: those of a shifted one, those of two at once, and the lowest that is set.
use Rattle.std.specs.Prelude.{◌≡◌, ℕ, zero, suc, ◌+◌, ◌/◌, ◌%◌, ◌^◌, ◌<◌, ◌≤◌, min, true, false, ◌&&◌, ◌==◌, bit_and, nat_eq, refl}
use Rattle.std.proofs.Common.{sym, ap, ◌∙◌, one-add, div-one, pow-suc, arith, pow_mono}
use Rattle.std.proofs.Math.Nat.{div-eq_of_lt}
use Rattle.std.specs.Int.Bits.{and_step}
use Rattle.std.specs.Int.Count.{count_trailing_zeros, under}
use Rattle.std.proofs.lemmas.Nat.{and_shr, shr-shr}
use Rattle.std.proofs.lemmas.Bool.{eq-eqb, ne_eqb}
use Rattle.std.proofs.lemmas.Bool.Decides.{nat_tests}
use Rattle.numbering.specs.Marks.{bit_set}

pub bit_shifted : (n j i : ℕ) → bit_set (n / 2 ^ j) i ≡ bit_set n (j + i)
unfolding bit_set
bit_shifted n j i = ap (λ m. nat_eq (m % 2) 1) (shr-shr n j i)

bit_step : (n i : ℕ) → bit_set n (suc i) ≡ bit_set (n / 2) i
bit_step n i = ap (bit_set n) (sym (one-add i)) ∙ sym (bit_shifted n 1 i)

bit_first : (n : ℕ) → bit_set n 0 ≡ (n % 2 == 1)
unfolding bit_set
bit_first n = ap (λ m. nat_eq (m % 2) 1) (div-one n)

-- a bit of both is set where each is
pub bit_both : (a b i : ℕ) → bit_set (bit_and a b) i ≡ (bit_set a i && bit_set b i)
unfolding bit_set
bit_both a b i =
    let x = a / 2 ^ i in
    let y = b / 2 ^ i in
    let digit : bit_and x y % 2 ≡ min (x % 2) (y % 2) = omega (arith, and_step x y) in
    ap (λ m. nat_eq (m % 2) 1) (and_shr a b i) ∙ rw digit (grind (arith, nat_tests))

pub nothing_past : (n k i : ℕ) → n < 2 ^ k → k ≤ i → n / 2 ^ i ≡ 0
nothing_past n k i small past = div-eq_of_lt (omega (arith, pow_mono past))

pub no_bit_past : (n k i : ℕ) → n < 2 ^ k → k ≤ i → bit_set n i ≡ false
unfolding bit_set
no_bit_past n k i small past = ap (λ m. nat_eq (m % 2) 1) (nothing_past n k i small past)

pub record Lowest (k n at : ℕ) : Type 0 where
  pub is_set : bit_set n at ≡ true
  pub below : at < k
  pub none_lower : (i : ℕ) → i < at → bit_set n i ≡ false

lower_too : (n t : ℕ) → n % 2 ≡ 0 → ((i : ℕ) → i < t → bit_set (n / 2) i ≡ false) → (i : ℕ) → i < suc t → bit_set n i ≡ false
lower_too n t even rest zero h = bit_first n ∙ ne_eqb _ _ (λ odd. omega arith)
lower_too n t even rest (suc i) h = bit_step n i ∙ rest i (omega arith)

by_digit : (k n t r : ℕ) → n % 2 ≡ r → (n % 2 ≡ 0 → Lowest k (n / 2) t) → Lowest (suc k) n (under r t)
by_digit k n t zero e rest =
    let l = rest e in
    record { is_set = bit_step n t ∙ l.is_set; below = omega (arith, l.below); none_lower = lower_too n t e l.none_lower }
by_digit k n t (suc r) e rest =
    record { is_set = bit_first n ∙ eq-eqb _ _ (omega arith); below = omega arith; none_lower = λ i h. absurd (omega arith) }

pub lowest : (k n : ℕ) → 0 < n → n < 2 ^ k → Lowest k n (count_trailing_zeros k n)
unfolding count_trailing_zeros
lowest zero n some small = absurd (omega arith)
lowest (suc k) n some small =
    by_digit k n (count_trailing_zeros k (n / 2)) (n % 2) refl (λ even. lowest k (n / 2) (omega arith) (omega (arith, pow-suc 2 k)))
