-- A call refuses with the first reason that applies, and accepts exactly when none does. Assumes nothing.
use Rattle.std.specs.Prelude.{◌≡◌, ℕ, ◌<◌, ◌⊎◌, Some, None, Option}

pub record FirstThatApplies {R : Type 0} (Applies : R → Type 0) (Before : R → R → Type 0) (refusal : Option R) : Type 0 where
  pub applies : (r : R) → refusal ≡ Some r → Applies r
  pub first : (r s : R) → refusal ≡ Some r → Applies s → Before s r → ⊥
  pub none : refusal ≡ None → (r : R) → Applies r → ⊥

-- reasons stand in the order of their numbers, and those of one number in the order of what they tell
abbrev pub ListedBefore : {R : Type 0} → (R → ℕ) → (R → ℕ) → R → R → Type 0
ListedBefore number tells r s = (number r < number s) ⊎ ((number r ≡ number s) × (tells r < tells s))
