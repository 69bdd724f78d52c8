use Rattle.std.proofs.Common.{◌≡◌}
use Rattle.delivery.specs.Opened.{body_part}
use Rattle.record.specs.Bodies.{field_start}
use Rattle.record.proofs.walking.field_at.Given as goal

abbrev pub invariant-loop : goal.invariant-loop
invariant-loop l =
    (body_part l.reader.body ≡ body_part l.body) × (l.reader.at ≡ field_start l.body.bytes.now l.counter)
