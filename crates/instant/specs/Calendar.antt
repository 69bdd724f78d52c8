-- The Gregorian calendar of the years 1900 to 2199, by counting days. Assumes nothing.
use Rattle.std.specs.Prelude.{ℕ, ◌+◌, ◌-◌, ◌%◌, Bool, cond, not, ◌&&◌, ◌||◌, ℤ, pos, ◌-ℤ◌, Some, None, Option, ◌==◌, nat_le, sum_by}
use Rattle.std.specs.List.{range_with_len}

abbrev pub first_year : ℕ
first_year = 1900

abbrev pub last_year : ℕ
last_year = 2199

abbrev pub divides : ℕ → ℕ → Bool
divides d n = n % d == 0

abbrev pub leap : ℕ → Bool
leap year = (divides 4 year && not (divides 100 year)) || divides 400 year

-- April, June, September and November
abbrev pub has_thirty : ℕ → Bool
has_thirty month = month == 4 || (month == 6 || (month == 9 || month == 11))

-- in a leap year or another, months counted from 1
abbrev pub days_in_month : Bool → ℕ → ℕ
days_in_month long month = cond (month == 2) (cond long 29 28) (cond (has_thirty month) 30 31)

-- the days of the first n months of a year
unfoldable pub days_of_months : Bool → ℕ → ℕ
days_of_months long n = sum_by (days_in_month long) (range_with_len 1 n)

-- the days of n years, the first of them 1900
unfoldable pub days_of_years : ℕ → ℕ
days_of_years n = sum_by (λ year. days_of_months (leap year) 12) (range_with_len first_year n)

abbrev pub days_from_1900 : ℕ → ℕ → ℕ → ℕ
days_from_1900 year month day = days_of_years (year - first_year) + days_of_months (leap year) (month - 1) + (day - 1)

abbrev pub days_from_1970 : ℕ → ℕ → ℕ → ℤ
days_from_1970 year month day = pos (days_from_1900 year month day) -ℤ pos (days_from_1900 1970 1 1)

-- the years 1900 to 2199 have this date
abbrev pub is_date : ℕ → ℕ → ℕ → Bool
is_date year month day =
    (nat_le first_year year && nat_le year last_year) && ((nat_le 1 month && nat_le month 12) && (nat_le 1 day && nat_le day (days_in_month (leap year) month)))

abbrev pub calendar_day : ℕ → ℕ → ℕ → Option ℤ
calendar_day year month day = cond (is_date year month day) (Some (days_from_1970 year month day)) None
