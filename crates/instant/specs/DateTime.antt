-- The form of a dateTime text and the instant that it tells: W3C XML Schema dateTime, narrowed. Assumes nothing.
use Rattle.std.specs.Prelude.{◌≡◌, ℕ, ◌+◌, ◌*◌, ◌≤◌, Bool, true, ◌&&◌, List, [], ◌++◌, ℤ, pos, ◌+ℤ◌, ◌-ℤ◌, ◌*ℤ◌, neg_ℤ, codes, nat_le}
use Rattle.instant.specs.declared.date_time.Instant.{Instant}
use Rattle.instant.specs.declared.local_time.LocalTime.{LocalTime}
use Rattle.instant.specs.Calendar.{days_from_1970, is_date}
use Rattle.instant.specs.Form.{digits1, digits2, digits4}

-- hours 00 to 23, minutes and seconds 00 to 59
abbrev pub is_on_clock : LocalTime → Bool
is_on_clock t = nat_le t.hour 23 && (nat_le t.minute 59 && nat_le t.second 59)

abbrev pub is_time : LocalTime → Bool
is_time t = is_date t.year t.month t.day && is_on_clock t

abbrev pub seconds_from_1970 : LocalTime → ℤ
seconds_from_1970 t =
    pos 86400 *ℤ days_from_1970 t.year t.month t.day +ℤ pos (3600 * t.hour + 60 * t.minute + t.second)

abbrev pub written : LocalTime → List ℕ
written t =
    digits4 t.year ++ codes "-" ++ digits2 t.month ++ codes "-" ++ digits2 t.day ++ codes "T" ++ digits2 t.hour ++ codes ":" ++ digits2 t.minute ++ codes ":" ++ digits2 t.second

-- `2020-01-28T15:47:09` tells the seconds from 1970 by the clock of its place
pub record Local (text : List ℕ) (seconds : ℤ) : Type 0 where
  pub time : LocalTime
  pub form : text ≡ written time
  pub limits : is_time time ≡ true
  pub value : seconds ≡ seconds_from_1970 time

-- nothing, or `.3`
pub data Fraction (text : List ℕ) (tenths : ℕ) : Type 0 where
  absent : text ≡ [] → tenths ≡ 0 → Fraction text tenths
  present : text ≡ codes "." ++ digits1 tenths → tenths ≤ 9 → Fraction text tenths

-- 14:00 in minutes
abbrev pub largest_offset : ℕ
largest_offset = 60 * 14

-- minutes to 59, and at most 14:00 in all
abbrev pub is_offset : ℕ → ℕ → Bool
is_offset hours minutes = nat_le minutes 59 && nat_le (60 * hours + minutes) largest_offset

-- `05:30` tells its minutes
pub record Offset (text : List ℕ) (offset : ℕ) : Type 0 where
  pub hours : ℕ
  pub minutes : ℕ
  pub form : text ≡ digits2 hours ++ codes ":" ++ digits2 minutes
  pub limits : is_offset hours minutes ≡ true
  pub value : offset ≡ 60 * hours + minutes

-- `Z`, `+05:30` or `-06:00` tells how many minutes the place's clock is ahead of UTC
pub data Zone (text : List ℕ) (ahead : ℤ) : Type 0 where
  utc : text ≡ codes "Z" → ahead ≡ pos 0 → Zone text ahead
  plus : (rest : List ℕ) (offset : ℕ) → text ≡ codes "+" ++ rest → Offset rest offset → ahead ≡ pos offset → Zone text ahead
  minus : (rest : List ℕ) (offset : ℕ) → text ≡ codes "-" ++ rest → Offset rest offset → ahead ≡ neg_ℤ (pos offset) → Zone text ahead

-- local time less the signed zone, both in tenths of a second
abbrev pub instant_at : (local ahead : ℤ) → Instant
instant_at local ahead = record { tenths = local -ℤ pos 600 *ℤ ahead }

pub record Tells (text : List ℕ) (instant : Instant) : Type 0 where
  pub local : List ℕ
  pub fraction : List ℕ
  pub zone : List ℕ
  pub seconds : ℤ
  pub tenths : ℕ
  pub ahead : ℤ
  pub parts : text ≡ local ++ fraction ++ zone
  pub of_local : Local local seconds
  pub of_fraction : Fraction fraction tenths
  pub of_zone : Zone zone ahead
  pub value : instant ≡ instant_at (pos 10 *ℤ seconds +ℤ pos tenths) ahead
