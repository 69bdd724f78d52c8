use Rattle.std.proofs.Common.{◌-◌, refl, rules}
use Rattle.std.proofs.lemmas.Iterator.{YieldsList-from_map, YieldsList-from_range}
use Rattle.std.proofs.lemmas.Iterator.Consumers.{fits_by_from_yields_list}
use Rattle.instant.specs.Calendar.{leap, days_in_month}
use Rattle.instant.proofs.Days.{months_fit}
use Rattle.instant.proofs.calendar.Date.days_before_month.Goals as goal

pub sum-requires-clause-fits : goal.sum-requires-clause-fits
sum-requires-clause-fits c =
    let date = c.args.self in
    let months = YieldsList-from_range 1 date.month (date.month - 1) c.map.ensures.source refl in
    fits_by_from_yields_list (days_in_month (leap date.year)) _ c.map.result _ (YieldsList-from_map _ (days_in_month (leap date.year)) months c.map.ensures.closure (λ x r q k. search rules)) (months_fit date.year date.month date.day date.on_calendar)
