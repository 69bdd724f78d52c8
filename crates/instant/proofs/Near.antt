-- Every number on the way from a text to its instant is small.
use Rattle.std.proofs.Common.{◌≡◌, ℕ, ◌*◌, ◌^◌, ◌≤◌, true, List, ℤ, pos, neg_ℤ, ◌≤ℤ◌, Some, refl, arith}
use Rattle.std.proofs.lemmas.Int.{ints}
use Rattle.std.proofs.lemmas.Option.{cond_some}
use Rattle.std.proofs.lemmas.Bool.Decides.{nat_tests}
use Rattle.instant.specs.declared.local_time.LocalTime.{LocalTime}
use Rattle.instant.specs.Calendar.{is_date, days_from_1970, calendar_day}
use Rattle.instant.specs.DateTime.{is_time, seconds_from_1970}
use Rattle.instant.specs.Reading.{seconds_in, zone_in}
use Rattle.instant.proofs.Days.{days_from_1900_le}

-- no farther from 0 than n, so that sums with it fit
abbrev pub Near : ℕ → ℤ → Type 0
Near n z = (neg_ℤ (pos n) ≤ℤ z) × (z ≤ℤ pos n)

days_near : (year month day : ℕ) → is_date year month day ≡ true → Near 120000 (days_from_1970 year month day)
days_near year month day h =
    let there = days_from_1900_le year month day h in
    let here = days_from_1900_le 1970 1 1 refl in
    (omega (arith, ints), omega (arith, ints))

pub calendar_near : (year month day : ℕ) (days : ℤ) → calendar_day year month day ≡ Some days → Near 120000 days
calendar_near year month day days e =
    let told = cond_some (is_date year month day) (days_from_1970 year month day) days e in rw (← told.1) (days_near year month day told.0)

pub zone_near : (text : List ℕ) (ahead : ℤ) → zone_in text ≡ Some ahead → Near 840 ahead
zone_near text ahead e = grind (arith, ints, nat_tests)

pub time_near : (t : LocalTime) → is_time t ≡ true → Near (2 * 10 ^ 10) (seconds_from_1970 t)
time_near t e =
    let limits : (is_date t.year t.month t.day ≡ true) × (t.hour ≤ 23) × (t.minute ≤ 59) × (t.second ≤ 59) = grind (arith, nat_tests) in
    let days = days_near t.year t.month t.day limits.0 in
    (omega (arith, ints), omega (arith, ints))

pub seconds_near : (t : LocalTime) (seconds : ℤ) → seconds_in t ≡ Some seconds → Near (2 * 10 ^ 10) seconds
seconds_near t seconds e =
    let told = cond_some (is_time t) (seconds_from_1970 t) seconds e in rw (← told.1) (time_near t told.0)
