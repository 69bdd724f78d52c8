-- Values that are told apart by a number are in a total order. Assumes nothing.
use Rattle.std.specs.Prelude.{ℕ, ltb, ◌==◌, nat_eq, nat_lt}
use Rattle.std.proofs.Common.{⊎_elim, arith}
use Rattle.std.proofs.lemmas.Bool.{cases_order, ltb-true, eqb-true, lt-ltb, le-ltb, eq-eqb, ne_eqb}
use Rattle.territory.specs.Order.{OneOf, only_first, only_second, only_third, Total}

one_of_numbers : (m n : ℕ) → OneOf (nat_lt m n) (m == n) (nat_lt n m)
one_of_numbers m n =
    ⊎_elim
    (λ level. rw (le-ltb m n (omega arith), eq-eqb m n level, le-ltb n m (omega arith)) only_second)
    (⊎_elim
    (λ below. rw (lt-ltb m n below, ne_eqb m n (λ e. omega arith), le-ltb n m (omega arith)) only_first)
    (λ above. rw (le-ltb m n (omega arith), ne_eqb m n (λ e. omega arith), lt-ltb n m above) only_third))
    (cases_order m n)

pub by_number : {B : Type 0} (number : B → ℕ) → Total (λ a b. ltb (number a) (number b)) (λ a b. nat_eq (number a) (number b))
by_number number = record {
  one = λ a b. one_of_numbers (number a) (number b);
  carries = λ a b c h k. lt-ltb _ _ (omega (arith, ltb-true _ _ h, ltb-true _ _ k));
  stands = λ a b c h. let e = eqb-true _ _ h in (cc, cc);
}
