use Rattle.std.proofs.Common.{arith}
use Rattle.std.proofs.lemmas.Bool.Decides.{Decides-at, nat_tests}
use Rattle.text.specs.FieldText.{is_field_text}
use Rattle.text.proofs.FieldLaws.{field_decides}
use Rattle.text.proofs.field_text.TextField.accepts.Goals as goal

pub returns-then-is_directed-clause-decides : goal.returns-then-is_directed-clause-decides
unfolding is_field_text
returns-then-is_directed-clause-decides c =
    Decides-at _ _ (grind (arith, nat_tests)) (field_decides c.args.self c.args.text.now)

pub returns-else-is_directed-clause-decides : goal.returns-else-is_directed-clause-decides
unfolding is_field_text
returns-else-is_directed-clause-decides c =
    Decides-at _ _ (grind (arith, nat_tests)) (field_decides c.args.self c.args.text.now)
