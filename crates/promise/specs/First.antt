-- The first number that passes a test. Assumes nothing.
use Rattle.std.specs.Prelude.{ℕ, Bool, is_some, Option}
use Rattle.std.specs.List.{find, range_with_len}

-- the first of some numbers in a row, from `i` on
unfoldable pub first_from : (ℕ → Bool) → ℕ → ℕ → Option ℕ
first_from test i count = find test (range_with_len i count)

abbrev pub first_below : (ℕ → Bool) → ℕ → Option ℕ
first_below test bound = first_from test 0 bound

abbrev pub any_below : (ℕ → Bool) → ℕ → Bool
any_below test bound = is_some (first_below test bound)
