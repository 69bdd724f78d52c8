-- A date and time of day is read exactly from `YYYY-MM-DDThh:mm:ss`.
use Rattle.std.proofs.Common.{◌≡◌, ℕ, ◌+◌, ◌*◌, ◌/◌, ◌<◌, true, false, List, length, take, length-take, Some, codes, sym, refl, ap, ◌∙◌, arith, lit<, rules}
use Rattle.std.proofs.lemmas.Slice.Eq.{text_from_reads}
use Rattle.std.proofs.lemmas.Bool.Decides.{nat_tests}
use Rattle.std.proofs.lemmas.Option.{cond_some, option_and_then_some}
use Rattle.std.specs.Option.{option_and_then}
use Rattle.promise.specs.Exactly.{Exactly}
use Rattle.instant.specs.declared.local_time.LocalTime.{LocalTime}
use Rattle.instant.specs.DateTime.{written, is_time, seconds_from_1970, Local}
use Rattle.instant.specs.Form.{has_form, two_digits}
use Rattle.instant.specs.Reading.{time_at, time_in, seconds_in}
use Rattle.instant.proofs.Digits.{digit_fits, two_read, four_read}
use Rattle.instant.proofs.Shapes.{form_by_bytes, form_length, mark_at, two_lt, two_at, pair_at}

abbrev local_form : List ℕ
local_form = codes "0000-00-00T00:00:00"

pub short_of_local : (text : List ℕ) → length text < 19 → has_form local_form (take 19 text) ≡ false
short_of_local text h = grind (arith, nat_tests, form_by_bytes, length-take)

time_written : (text : List ℕ) → has_form local_form text ≡ true → text ≡ written (time_at text)
time_written text h =
    let pair = pair_at local_form text h in
    let two = two_at local_form text h in
    let mark = mark_at local_form text h in
    let low = two_lt local_form text h 2 (lit< tt) refl refl in
    let century = pair 0 (lit< tt) refl refl ((100 * two_digits text 0 + two_digits text 2) / 100) 0 (omega arith) in
    let year = pair 2 (lit< tt) refl refl (100 * two_digits text 0 + two_digits text 2) (two_digits text 0) refl in
    let month = two 5 (lit< tt) refl refl in
    let day = two 8 (lit< tt) refl refl in
    let hour = two 11 (lit< tt) refl refl in
    let minute = two 14 (lit< tt) refl refl in
    let second = two 17 (lit< tt) refl refl in
    let after_year = mark 4 (lit< tt) (λ e. omega arith) in
    let after_month = mark 7 (lit< tt) (λ e. omega arith) in
    let after_day = mark 10 (lit< tt) (λ e. omega arith) in
    let after_hour = mark 13 (lit< tt) (λ e. omega arith) in
    let after_minute = mark 16 (lit< tt) (λ e. omega arith) in
    text_from_reads text (written (time_at text)) (form_length local_form text h) (search rules)

written_form : (t : LocalTime) → has_form local_form (written t) ≡ true
unfolding has_form
written_form t = simp digit_fits

time_of_written : (t : LocalTime) → is_time t ≡ true → time_at (written t) ≡ t
time_of_written t limits =
    let below : (t.year < 10000) × (t.month < 100) × (t.day < 100) × (t.hour < 100) × (t.minute < 100) × (t.second < 100) = grind (arith, nat_tests) in
    rw (four_read t.year below.0, two_read t.month below.1, two_read t.day below.2, two_read t.hour below.3, two_read t.minute below.4, two_read t.second below.5)

time_read : (t : LocalTime) → is_time t ≡ true → time_in (written t) ≡ Some t
time_read t limits = rw (written_form t) (ap Some (time_of_written t limits))

pub local_exactly : (text : List ℕ) → Exactly (Local text) (option_and_then seconds_in (time_in text))
local_exactly text =
    record {
      sound = λ seconds e.
          option_and_then_some seconds_in (time_in text) seconds e
          (λ time form value.
          let found = cond_some (has_form local_form text) (time_at text) time form in
          let limits = cond_some (is_time time) (seconds_from_1970 time) seconds value in
          record { time = time; form = time_written text found.0 ∙ ap written found.1; limits = limits.0; value = sym limits.1 });
      complete = λ seconds m.
          ap (λ t. option_and_then seconds_in (time_in t)) m.form ∙ ap (option_and_then seconds_in) (time_read m.time m.limits) ∙ rw (m.limits, m.value);
    }
