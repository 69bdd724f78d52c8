use Rattle.std.proofs.Common.{ℤ, Some, Option, sym, ap, arith}
use Rattle.std.proofs.lemmas.Int.{ints}
use Rattle.instant.specs.declared.date_time.Instant.{Instant}
use Rattle.instant.specs.Reading.{instant_in}
use Rattle.instant.proofs.Bounds.{promised}
use Rattle.instant.proofs.Near.{seconds_near, zone_near}
use Rattle.instant.proofs.date_time.Instant.read.Goals as goal

pub overflow_mul-result : goal.overflow_mul-result
overflow_mul-result c = let seconds = seconds_near c.in_ok-read.field-0 c.in_ok-seconds.seconds (sym c.in_ok-seconds.ensures) in omega (arith, ints)

pub overflow_add-result : goal.overflow_add-result
overflow_add-result c = let seconds = seconds_near c.in_ok-read.field-0 c.in_ok-seconds.seconds (sym c.in_ok-seconds.ensures) in omega (arith, ints)

pub overflow_mul-result-2 : goal.overflow_mul-result-2
overflow_mul-result-2 c = let ahead = zone_near c.split_tenths-tenths.result.1.now c.in_ok-ahead.ahead (sym c.in_ok-ahead.ensures) in omega (arith, ints)

pub overflow_sub-result : goal.overflow_sub-result
overflow_sub-result c =
    let seconds = seconds_near c.in_ok-read.field-0 c.in_ok-seconds.seconds (sym c.in_ok-seconds.ensures) in
    let ahead = zone_near c.split_tenths-tenths.result.1.now c.in_ok-ahead.ahead (sym c.in_ok-ahead.ensures) in
    omega (arith, ints)

made : ℤ → Option Instant
made tenths = Some (record { tenths = tenths })

pub returns : goal.returns
unfolding made instant_in
returns c =
    let seconds = seconds_near c.in_ok-read.field-0 c.in_ok-seconds.seconds (sym c.in_ok-seconds.ensures) in
    let ahead = zone_near c.split_tenths-tenths.result.1.now c.in_ok-ahead.ahead (sym c.in_ok-ahead.ensures) in
    let parts = c.in_ok-local.ensures.cases in
    let tenths = c.split_tenths-tenths.ensures in
    promised _ _ (rw (← parts.1, ← c.in_ok-read.ensures, ← c.in_ok-seconds.ensures, ← parts.2, ← tenths.rest, ← c.in_ok-ahead.ensures, ← tenths.tenths) (ap made (omega (arith, ints))))
