use Rattle.numbering.specs.Laws.Leasts.{least_is, least_of_shared}
use Rattle.numbering.proofs.number_sets.NumberSet.least_shared.Goals as goal

pub returns : goal.returns
returns g c =
    let told = least_of_shared g.Self.NumberSet.holds _ _ _ c.shared.ensures _ c.least.ensures in
    record { value = least_is _ _ g.met.Self.NumberSet.bounded _ _ _ told; least = told }
