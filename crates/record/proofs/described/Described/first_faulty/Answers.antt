use Rattle.std.proofs.Common.{◌∙◌, rules, tests}
use Rattle.std.proofs.lemmas.Iterator.{YieldsList-from_slice}
use Rattle.std.proofs.lemmas.Iterator.Adapters.{serves_from_places}
use Rattle.std.proofs.lemmas.Iterator.Consumers.{YieldsList-from_enumerate}
use Rattle.std.proofs.lemmas.Iterator.Search.{position_from_yields_List}
use Rattle.record.specs.Judging.{faulty}
use Rattle.record.specs.Layouts.{layout}
use Rattle.record.proofs.NamedTexts.{pair_stands}
use Rattle.record.proofs.Positions.{position_numbered}
use Rattle.record.proofs.described.Described.first_faulty.Goals as goal

pub position-requires-clause-callable : goal.position-requires-clause-callable
position-requires-clause-callable g c =
    serves_from_places (YieldsList-from_enumerate (YieldsList-from_slice (layout c.args.self.kind) cc) cc)
    (λ x q k. search rules)
    (λ x k below e. let stands = pair_stands c.args.self.kind x.1.now x.0 k below e in search rules)

pub returns-clause-value : goal.returns-clause-value
returns-clause-value g c =
    position_from_yields_List (λ p. faulty g.N.Numbering c.args.self.kind c.args.self.body.bytes.now p.1) _ _ _ c.position.ensures.ran
    (YieldsList-from_enumerate (YieldsList-from_slice (layout c.args.self.kind) cc) cc)
    (λ x b q k. search (rules, tests))
    ∙ position_numbered (faulty g.N.Numbering c.args.self.kind c.args.self.body.bytes.now) (layout c.args.self.kind)
