-- The code's way to the days of the years and months, tied to the count.
use Rattle.std.proofs.Common.{◌≡◌, ℕ, ◌+◌, ◌-◌, ◌*◌, ◌/◌, ◌^◌, ◌<◌, ◌≤◌, Bool, true, eqb, sum_by, get_or, refl, subst, arith, eqb-true}
use Rattle.std.specs.List.{list_all, range_with_len}
use Rattle.std.proofs.lemmas.List.FromFn.{length-range_with_len, get_or-range_with_len}
use Rattle.std.proofs.lemmas.List.Sums.{sum_by-le, AllPass-from_list_all}
use Rattle.std.proofs.lemmas.List.Elements.{All-get_or}
use Rattle.std.proofs.lemmas.Bool.Decides.{nat_tests}
use Rattle.instant.specs.Calendar.{first_year, last_year, days_of_years, days_of_months, days_in_month, days_from_1900, is_date, leap}

-- a test that each number of a range passes
each_passes : (test : ℕ → Bool) (a n : ℕ) → list_all test (range_with_len a n) ≡ true → (k : ℕ) → k < n → test (a + k) ≡ true
each_passes test a n h k below =
    rw (← get_or-range_with_len a n k 0 below) (All-get_or (λ x. test x ≡ true) (range_with_len a n) k 0 (omega (arith, length-range_with_len a n)) (AllPass-from_list_all test (range_with_len a n) h))

abbrev pub by_rule : ℕ → ℕ
by_rule year = 365 * (year - 1900) + ((year - 1) / 4 - (year - 1) / 100 + (year - 1) / 400 - 460)

rule_counts : list_all (λ year. eqb (by_rule year) (days_of_years (year - first_year))) (range_with_len first_year 300) ≡ true
unfolding days_of_years days_of_months
rule_counts = refl

month_le : (long : Bool) (month : ℕ) → days_in_month long month ≤ 31
month_le long month = grind (arith, nat_tests)

-- a sum over a range of numbers, each of whose terms is at most m
range_le : (f : ℕ → ℕ) (m : ℕ) → ((k : ℕ) → f k ≤ m) → (a n : ℕ) → sum_by f (range_with_len a n) ≤ n * m
range_le f m each a n =
    subst (λ k. sum_by f (range_with_len a n) ≤ k * m) (length-range_with_len a n) (sum_by-le f m (range_with_len a n) (λ k d h. each (get_or (range_with_len a n) k d)))

days_of_months_le : (long : Bool) (n : ℕ) → days_of_months long n ≤ 31 * n
unfolding days_of_months
days_of_months_le long n = omega (arith, range_le (days_in_month long) 31 (month_le long) 1 n)

days_of_years_le : (n : ℕ) → days_of_years n ≤ 372 * n
unfolding days_of_years
days_of_years_le n = omega (arith, range_le (λ year. days_of_months (leap year) 12) 372 (λ year. days_of_months_le (leap year) 12) first_year n)

module _ (year month day : ℕ) (date : is_date year month day ≡ true) where
  bounds : (first_year ≤ year) × (year ≤ last_year) × (month ≤ 12) × (day ≤ 31)
  bounds = grind (arith, nat_tests)

  pub rule_is_count : by_rule year ≡ days_of_years (year - first_year)
  rule_is_count =
      let limits = bounds in
      let whole : first_year + (year - first_year) ≡ year = omega arith in
      let passes = each_passes (λ year. eqb (by_rule year) (days_of_years (year - first_year))) first_year 300 rule_counts (year - first_year) (omega arith) in
      eqb-true _ _ (rw whole at passes)

  pub months_fit : sum_by (days_in_month (leap year)) (range_with_len 1 (month - 1)) < 2 ^ 32
  months_fit = let limits = bounds in omega (arith, range_le (days_in_month (leap year)) 31 (month_le (leap year)) 1 (month - 1))

  pub days_from_1900_le : days_from_1900 year month day ≤ 120000
  days_from_1900_le =
      let limits = bounds in omega (arith, days_of_years_le (year - first_year), days_of_months_le (leap year) (month - 1))
