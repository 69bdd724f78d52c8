use Rattle.std.proofs.Common.{rules}
use Rattle.std.proofs.lemmas.Bool.Decides.{Decides-at}
use Rattle.territory.proofs.Emptiness.{shares_nothing}
use Rattle.territory.proofs.territories.Territory.is_empty.Goals as goal

pub returns-clause-meaning : goal.returns-clause-meaning
returns-clause-meaning g c = Decides-at _ _ (search rules) (shares_nothing g.met.Self.Territory.lawful _)
