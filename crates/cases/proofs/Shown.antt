-- Every worked case holds: all but the touching lifetimes are computed.
use Rattle.std.proofs.Common.{refl, arith}
use Rattle.std.proofs.lemmas.Int.{ints}
use Rattle.std.proofs.lemmas.Bool.Decides.{nat_tests}
use Rattle.std.specs.List.{AllByRecursion}
use Rattle.promise.specs.First.{first_from}
use Rattle.text.specs.AddressNumber.{digits_value, read_number}
use Rattle.numbering.specs.Hexadecimal.{hex_after}
use Rattle.numbering.specs.Marks.{bit_set}
use Rattle.instant.specs.Calendar.{days_of_months, days_of_years}
use Rattle.instant.specs.Form.{has_form}
use Rattle.instant.specs.Reading.{instant_in}
use Rattle.cases.specs.Cases.{Told, cases, touching_apart}

infixr 5 ◌⊗◌
-- the first of some facts, and the others
◌⊗◌ : {A B : Type 0} → A → B → A × B
a ⊗ b = (a, b)

touching : Told touching_apart
touching first touch end = (grind (arith, ints), grind (arith, ints))

pub all_hold : AllByRecursion Told cases
unfolding first_from digits_value read_number hex_after bit_set days_of_months days_of_years has_form instant_in
all_hold =
    refl
    ⊗ refl
    ⊗ refl
    ⊗ refl
    ⊗ touching
    ⊗ (_, refl, refl)
    ⊗ (_, refl, refl)
    ⊗ (_, refl, refl)
    ⊗ (_, refl, refl)
    ⊗ (_, refl, (_, refl, refl))
    ⊗ (_, refl, (_, refl, refl))
    ⊗ refl
    ⊗ (_, refl, λ n. grind (arith, nat_tests))
    ⊗ (_, refl, (_, refl, refl))
    ⊗ tt
