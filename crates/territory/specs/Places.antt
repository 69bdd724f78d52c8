-- How places are written. Assumes nothing.
use Rattle.std.specs.Prelude.{◌≡◌, ℕ, ◌≤◌, Bool, true, List, length, Some, Option}

-- the most bytes that a written place may have
abbrev pub place_width : ℕ
place_width = 14

pub record WritesPlaces {P : Type 0} (same : P → P → Bool) (place : List ℕ → Option P) (written : P → List ℕ) : Type 0 where
  pub some_bytes : (p : P) → 1 ≤ length (written p)
  pub few_bytes : (p : P) → length (written p) ≤ place_width
  -- what was written of a place that some text says reads back as the same place
  pub reads_back : (text : List ℕ) (p : P) → place text ≡ Some p → (q : P) × (place (written p) ≡ Some q) × (same p q ≡ true)
