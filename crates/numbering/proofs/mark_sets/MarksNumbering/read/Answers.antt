use Rattle.std.proofs.Common.{rules}
use Rattle.numbering.specs.Laws.MarkLaws.{fault_told}
use Rattle.numbering.proofs.mark_sets.MarksNumbering.read.Goals as goal

pub returns-in_err-first-clause-at_fault : goal.returns-in_err-first-clause-at_fault
returns-in_err-first-clause-at_fault c = fault_told c.args.first.now c.args.bits.now c.args.rest.now _ (search rules)

pub returns-in_err-bits-clause-at_fault : goal.returns-in_err-bits-clause-at_fault
returns-in_err-bits-clause-at_fault c = fault_told c.args.first.now c.args.bits.now c.args.rest.now _ (search rules)

pub returns-then-not-is_empty-clause-at_fault : goal.returns-then-not-is_empty-clause-at_fault
returns-then-not-is_empty-clause-at_fault c = fault_told c.args.first.now c.args.bits.now c.args.rest.now _ (search rules)

pub returns-clause-at_fault : goal.returns-clause-at_fault
returns-clause-at_fault c = fault_told c.args.first.now c.args.bits.now c.args.rest.now _ (search rules)
