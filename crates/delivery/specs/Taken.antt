-- Marks on the bytes of a delivery: which ones some body has taken. Assumes nothing.
use Rattle.std.specs.Prelude.{◌≡◌, ℕ, ◌<◌, ◌≤◌, Bool, false, not, ◌&&◌, ◌||◌, List, nat_lt, slice_index_or}

-- no byte from the first up to the end is taken
abbrev pub Free : List Bool → ℕ → ℕ → Type 0
Free taken first end = (b : ℕ) → first ≤ b → b < end → slice_index_or taken b false ≡ false

-- whether a byte is taken once those from the first up to the end are taken too
abbrev pub taken_also : List Bool → ℕ → ℕ → ℕ → Bool
taken_also taken first end b = (not (nat_lt b first) && nat_lt b end) || slice_index_or taken b false
