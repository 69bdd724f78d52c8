use Rattle.std.proofs.Common.{sym, arith}
use Rattle.numbering.specs.Laws.BitLaws.{nothing_past}
use Rattle.numbering.proofs.mark_sets.bits_from.Goals as goal

pub returns-else-place-lt-BITS : goal.returns-else-place-lt-BITS
returns-else-place-lt-BITS c = sym (nothing_past _ 64 _ (omega arith) (omega arith))
