-- The limits of time: a missing Effective is the earliest instant, a missing Expire the latest. Assumes nothing.
use Rattle.std.specs.Prelude.{◌≡◌, ℕ, Bool, true, ◌&&◌, ◌⊎◌, List, [], ◌∷◌, pos, neg_ℤ, IfSome, Some, Option, int_le, int_lt}
use Rattle.instant.specs.declared.date_time.Instant.{Instant}
use Rattle.instant.specs.DateTime.{Tells}
use Rattle.instant.specs.Reading.{instant_in}

abbrev pub earliest : Instant
earliest = record { tenths = neg_ℤ (pos 1000000000000) }

abbrev pub latest : Instant
latest = record { tenths = pos 1000000000000 }

-- from the earliest up to, without, the latest
abbrev pub is_within : Instant → Bool
is_within instant = int_le earliest.tenths instant.tenths && int_lt instant.tenths latest.tenths

-- an instant that was read is within the limits
abbrev pub SomeWithin : Option Instant → Type 0
SomeWithin read = IfSome read (λ instant. is_within instant ≡ true)

-- a text, or the instant that stands for a missing one
abbrev pub instant_or : Instant → List ℕ → Option Instant
instant_or missing [] = Some missing
instant_or missing (byte ∷ text) = instant_in (byte ∷ text)

abbrev pub TellsOr : Instant → List ℕ → Instant → Type 0
TellsOr missing text instant = ((text ≡ []) × (instant ≡ missing)) ⊎ Tells text instant
