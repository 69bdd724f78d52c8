-- Digits that are written are read back.
use Rattle.std.proofs.Common.{◌≡◌, ℕ, ◌+◌, ◌-◌, ◌*◌, ◌/◌, ◌%◌, ◌<◌, ◌≤◌, true, ◌&&◌, leb, arith, lit<}
use lib.Arith.{mod-mul}
use Rattle.std.proofs.lemmas.Bool.Decides.{nat_tests}

pub digit_fits : (n : ℕ) → (leb 48 (48 + n % 10) && leb (48 + n % 10) 57) ≡ true
digit_fits n = grind (arith, nat_tests)

low_two : (n : ℕ) → 10 * (48 + n / 10 % 10 - 48) + (48 + n % 10 - 48) ≡ n % 100
low_two n = omega (arith, mod-mul n {m = 10} {c = 10} (lit< tt) (lit< tt))

pub two_read : (n : ℕ) → n < 100 → 10 * (48 + n / 10 % 10 - 48) + (48 + n % 10 - 48) ≡ n
two_read n h = omega (arith, low_two n)

pub four_read : (n : ℕ) → n < 10000 → 100 * (10 * (48 + n / 100 / 10 % 10 - 48) + (48 + n / 100 % 10 - 48)) + (10 * (48 + n / 10 % 10 - 48) + (48 + n % 10 - 48)) ≡ n
four_read n h = let hundreds = low_two (n / 100) in let rest = low_two n in omega arith

pub one_read : (n : ℕ) → n ≤ 9 → 48 + n % 10 - 48 ≡ n
one_read n h = omega arith
