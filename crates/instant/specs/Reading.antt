-- What is read of a dateTime text, by the places of its bytes: a function that computes, for every text. Assumes nothing.
use Rattle.std.specs.Prelude.{ℕ, ◌+◌, ◌*◌, cond, ◌&&◌, List, take, drop, ℤ, pos, ◌+ℤ◌, ◌*ℤ◌, neg_ℤ, Some, None, codes, Option}
use Rattle.std.specs.Option.{option_map, option_and_then}
use Rattle.instant.specs.declared.date_time.Instant.{Instant}
use Rattle.instant.specs.declared.local_time.LocalTime.{LocalTime}
use Rattle.instant.specs.DateTime.{is_time, is_offset, seconds_from_1970, instant_at}
use Rattle.instant.specs.Form.{has_form, begins, one_digit, two_digits}

-- the bytes of `YYYY-MM-DDThh:mm:ss`
abbrev pub local_width : ℕ
local_width = 19

abbrev pub time_at : List ℕ → LocalTime
time_at text =
    record {
      year = 100 * two_digits text 0 + two_digits text 2;
      month = two_digits text 5;
      day = two_digits text 8;
      hour = two_digits text 11;
      minute = two_digits text 14;
      second = two_digits text 17;
    }

abbrev pub time_in : List ℕ → Option LocalTime
time_in text = cond (has_form (codes "0000-00-00T00:00:00") text) (Some (time_at text)) None

abbrev pub seconds_in : LocalTime → Option ℤ
seconds_in time = cond (is_time time) (Some (seconds_from_1970 time)) None

-- `05:30` in minutes
abbrev pub offset_in : List ℕ → Option ℕ
offset_in text =
    let hours = two_digits text 0 in
    let minutes = two_digits text 3 in
    cond (has_form (codes "00:00") text && is_offset hours minutes) (Some (60 * hours + minutes)) None

-- `Z`, or a sign and an offset, in minutes
abbrev pub zone_in : List ℕ → Option ℤ
zone_in text =
    cond
    (has_form (codes "Z") text)
    (Some (pos 0))
    (cond
    (begins (codes "+") text)
    (option_map pos (offset_in (drop 1 text)))
    (cond (begins (codes "-") text) (option_map (λ n. neg_ℤ (pos n)) (offset_in (drop 1 text))) None))

-- the tenths of a second that a point and a digit tell, 0 where there are none, and the text after them
abbrev pub tenths_in : List ℕ → ℕ × List ℕ
tenths_in text = cond (begins (codes ".0") text) (one_digit text 1, drop 2 text) (0, text)

abbrev pub rest_in : (seconds : ℤ) → List ℕ → Option Instant
rest_in seconds rest =
    let tenths = tenths_in rest in option_map (instant_at (pos 10 *ℤ seconds +ℤ pos tenths.0)) (zone_in tenths.1)

unfoldable pub instant_in : List ℕ → Option Instant
instant_in text =
    option_and_then
    (λ seconds. rest_in seconds (drop local_width text))
    (option_and_then seconds_in (time_in (take local_width text)))
