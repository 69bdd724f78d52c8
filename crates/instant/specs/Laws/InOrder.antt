-- Instants are in a total order.
use Rattle.std.specs.Prelude.{◌≡◌, Bool, true, false, not, ◌&&◌, ℤ, ◌≢◌, int_lt, refl}
use Rattle.std.proofs.Common.{arith}
use Rattle.std.proofs.lemmas.Int.{ints}
use Rattle.territory.specs.Order.{OneOf, only_first, only_second, only_third, Total}
use Rattle.instant.specs.Instants.{instant_before, instant_level}

one_of : (x z : Bool) → (x ≡ true → z ≢ true) → OneOf x (not x && not z) z
one_of true true apart = absurd (apart refl refl)
one_of true false apart = only_first
one_of false true apart = only_third
one_of false false apart = only_second

level : (x y : ℤ) → (not (int_lt x y) && not (int_lt y x)) ≡ true → x ≡ y
level x y h = grind (arith, ints)

pub instants_total : Total instant_before instant_level
instants_total =
    record {
      one = λ a b. one_of (instant_before a b) (instant_before b a) (λ h k. grind (arith, ints));
      carries = λ a b c h k. grind (arith, ints);
      stands = λ a b c h. let e = level a.tenths b.tenths h in (cc, cc);
    }
