use Rattle.delivery.proofs.Taking.{none_taken}
use Rattle.delivery.proofs.taken.Taken.none.Goals as goal

pub returns : goal.returns
returns c = none_taken 65535
