use Rattle.std.proofs.Common.{◌≡◌, ◌-◌}
use Rattle.delivery.specs.Opened.{body_part}
use Rattle.record.specs.Bodies.{broken_at}
use Rattle.record.proofs.walking.check_whole.Given as goal

abbrev pub invariant-loop : goal.invariant-loop
invariant-loop l =
    (body_part l.reader.body ≡ body_part l.body)
    × (broken_at (body_part l.body) 0 l.count ≡ broken_at (body_part l.body) l.reader.at (l.count - l.counter))
