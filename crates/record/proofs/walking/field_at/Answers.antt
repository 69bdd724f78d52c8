use Rattle.std.proofs.Common.{◌∙◌, ap, arith}
use Rattle.std.proofs.lemmas.Result.{err_from_is_err_and}
use Rattle.delivery.specs.Opened.{body_part}
use Rattle.delivery.specs.Fields.{field_from}
use Rattle.record.proofs.Walks.{start_again, stopped}
use Rattle.record.proofs.walking.field_at.Goals as goal

pub returns-in_err-field : goal.returns-in_err-field
returns-in_err-field c =
    let kept = c.loop.invariant in
    let told = c.in_err-field.ensures.value ∙ ap (λ part. field_from part c.loop.reader.at) kept.0 in
    let p = err_from_is_err_and c.from_residual.result c.from_residual.ensures.1 in
    rw (p.1, p.2) (stopped (body_part c.args.body) c.loop.reader.at c.loop.counter c.args.index _ kept.1 (omega arith) told)

pub loop-preserved : goal.loop-preserved
loop-preserved c =
    let kept = c.loop.invariant in
    let next = start_again (body_part c.args.body) (body_part c.loop.reader.body) c.loop.reader.at c.loop.counter kept.0 kept.1 in
    (c.field.ensures.body ∙ kept.0, c.field.ensures.after ∙ next)
