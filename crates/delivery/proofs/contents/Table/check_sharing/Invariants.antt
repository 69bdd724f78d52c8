use Rattle.std.proofs.Common.{◌≡◌, ◌-◌}
use Rattle.promise.specs.First.{first_from, first_below}
use Rattle.delivery.specs.Opening.{shares_earlier}
use Rattle.delivery.proofs.Sharing.{Marked}
use Rattle.delivery.proofs.contents.Table.check_sharing.Given as goal

abbrev pub invariant-loop-number : goal.invariant-loop-number
invariant-loop-number l = record {
  rest : first_below (shares_earlier l.self.bytes.now) l.self.count ≡ first_from (shares_earlier l.self.bytes.now) l.number (l.self.count - l.number);
  marked : Marked l.self.bytes.now l.number l.taken.marks;
}
