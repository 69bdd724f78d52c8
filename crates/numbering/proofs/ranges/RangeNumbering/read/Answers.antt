use Rattle.std.proofs.Common.{rules}
use Rattle.numbering.specs.Laws.RangeLaws.{fault_told}
use Rattle.numbering.proofs.ranges.RangeNumbering.read.Goals as goal

pub returns-in_err-from-clause-at_fault : goal.returns-in_err-from-clause-at_fault
returns-in_err-from-clause-at_fault c = fault_told c.args.from.now c.args.to.now c.args.parity.now _ (search rules)

pub returns-in_err-to-clause-at_fault : goal.returns-in_err-to-clause-at_fault
returns-in_err-to-clause-at_fault c = fault_told c.args.from.now c.args.to.now c.args.parity.now _ (search rules)

pub returns-in_err-parity-clause-at_fault : goal.returns-in_err-parity-clause-at_fault
returns-in_err-parity-clause-at_fault c = fault_told c.args.from.now c.args.to.now c.args.parity.now _ (search rules)

pub returns-clause-at_fault : goal.returns-clause-at_fault
returns-clause-at_fault c = fault_told c.args.from.now c.args.to.now c.args.parity.now _ (search rules)
