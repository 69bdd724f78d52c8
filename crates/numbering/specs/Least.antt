-- The least number that two of a kind hold, for every kind that holds numbers below some limit. Assumes nothing.
use Rattle.std.specs.Prelude.{◌≡◌, ℕ, ◌<◌, Bool, true, ◌&&◌, Some, None, Option, ◌≢◌}
use Rattle.std.specs.Option.{option_map}
use Rattle.promise.specs.First.{first_below}
use Rattle.text.specs.declared.address_number.AddressNumber.{AddressNumber}
use Rattle.numbering.specs.Places.{address}

abbrev pub both_hold : {S : Type 0} → (S → ℕ → Bool) → S → S → ℕ → Bool
both_hold holds s t n = holds s n && holds t n

-- `past` tells a number after all that one holds
abbrev pub least_shared : {S : Type 0} → (S → ℕ → Bool) → (S → ℕ) → S → S → Option AddressNumber
least_shared holds past s t = option_map address (first_below (both_hold holds s t) (past s))

pub record Least {S : Type 0} (holds : S → ℕ → Bool) (s t : S) (answer : Option AddressNumber) : Type 0 where
  -- what is told is held by both
  pub held : (p : AddressNumber) → answer ≡ Some p → both_hold holds s t p.value ≡ true
  -- no smaller number is held by both
  pub no_smaller : (p : AddressNumber) (n : ℕ) → answer ≡ Some p → n < p.value → both_hold holds s t n ≢ true
  -- none is told only where no number is shared
  pub none : (n : ℕ) → answer ≡ None → both_hold holds s t n ≢ true
