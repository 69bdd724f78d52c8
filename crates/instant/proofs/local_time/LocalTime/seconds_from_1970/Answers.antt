use Rattle.std.proofs.Common.{Some, sym, ap, arith}
use Rattle.std.proofs.lemmas.Int.{ints}
use Rattle.std.proofs.lemmas.Option.{cond_some}
use Rattle.instant.specs.Calendar.{is_date, days_from_1970}
use Rattle.instant.proofs.Near.{Near, calendar_near}
use Rattle.instant.proofs.local_time.LocalTime.seconds_from_1970.Goals as goal
use Rattle.instant.proofs.local_time.LocalTime.seconds_from_1970.Goals.{Else-not-is_on_clock}

near : (c : goal.Else-not-is_on_clock) → Near 120000 c.in_ok-days.days
near c = calendar_near c.args.self.year c.args.self.month c.args.self.day c.in_ok-days.days (sym c.in_ok-days.ensures)

pub overflow_mul-result : goal.overflow_mul-result
overflow_mul-result c = let near = near c in omega (arith, ints)

pub overflow_add-result : goal.overflow_add-result
overflow_add-result c = let near = near (goal.at.overflow_add-result c).Else-not-is_on_clock in omega (arith, ints)

pub returns : goal.returns
returns c =
    let near = near (goal.at.returns c).Else-not-is_on_clock in
    let date = c.args.self in
    let told = cond_some (is_date date.year date.month date.day) (days_from_1970 date.year date.month date.day) c.in_ok-days.days (sym c.in_ok-days.ensures) in
    rw (told.0, sym c.if-not-is_on_clock.ensures) (ap Some (omega (arith, ints)))
