use Rattle.std.proofs.Common.{◌∙◌, ap, arith}
use Rattle.std.proofs.lemmas.Result.{err_from_is_err_and}
use Rattle.std.specs.Option.{option_map}
use Rattle.delivery.specs.Opened.{body_part}
use Rattle.delivery.specs.Fields.{field_from, past_field}
use Rattle.record.specs.declared.refusals.BodyRefusal.TheVariants.{Broken}
use Rattle.record.proofs.Walks.{breaks, passes}
use Rattle.record.proofs.walking.check_whole.Goals as goal

pub returns-in_err-field : goal.returns-in_err-field
returns-in_err-field c =
    let told = c.in_err-field.ensures.value ∙ ap (λ part. field_from part c.loop.reader.at) c.loop.invariant.0 in
    let p = err_from_is_err_and c.from_residual.result c.from_residual.ensures.1 in
    rw (p.1, p.2) (ap (option_map Broken) (breaks (body_part c.args.body) c.loop.reader.at c.loop.counter c.args.count c.loop.invariant.1 _ (omega arith) told))

pub loop-preserved : goal.loop-preserved
loop-preserved c =
    let kept = c.loop.invariant in
    let told = c.in_ok-field.ensures.value ∙ ap (λ part. field_from part c.loop.reader.at) kept.0 in
    let after = c.field.ensures.after ∙ ap (λ part. past_field part.bytes c.loop.reader.at) kept.0 in
    (c.field.ensures.body ∙ kept.0, passes (body_part c.args.body) c.loop.reader.at c.loop.counter c.args.count kept.1 _ _ (omega arith) told after)
