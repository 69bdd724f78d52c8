use Rattle.std.proofs.Common.{rules}
use Rattle.delivery.proofs.Refused.{told_rightly}
use Rattle.delivery.proofs.deliveries.Delivery.open.Goals as goal

pub returns-in_err-check_entries-clause-rightly : goal.returns-in_err-check_entries-clause-rightly
returns-in_err-check_entries-clause-rightly c = told_rightly c.args.bytes.now _ (search rules)

pub returns-in_err-check_sharing-clause-rightly : goal.returns-in_err-check_sharing-clause-rightly
returns-in_err-check_sharing-clause-rightly c = told_rightly c.args.bytes.now _ (search rules)

pub returns-clause-rightly : goal.returns-clause-rightly
returns-clause-rightly c = told_rightly c.args.bytes.now _ (search rules)
