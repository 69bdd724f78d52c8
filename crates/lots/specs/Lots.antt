-- Lots by their digits. Assumes nothing.
use Rattle.std.specs.Prelude.{ℕ, ◌+◌, ◌-◌, ◌%◌, min, max, cond, ◌&&◌, List, [], ◌∷◌, length, Some, None, Ok, Err, Option, Result, ◌==◌, nat_le, slice_index}
use Rattle.territory.specs.declared.numberings.NumberingText.{NumberingText}
use Rattle.territory.specs.declared.numberings.NumberingText.TheVariants.{First, Second, Third}
use Rattle.lots.specs.declared.Lot.{Lot}
use Rattle.lots.specs.declared.Lots.{Lots}

abbrev pub lot : ℕ → Lot
lot number = record { number = number }

abbrev pub lowest_shared : ℕ → ℕ → ℕ → ℕ → Option Lot
lowest_shared first₁ last₁ first₂ last₂ = cond (nat_le (max first₁ first₂) (min last₁ last₂)) (Some (lot (max first₁ first₂))) None

-- one digit
abbrev pub lot_of : List ℕ → Option Lot
lot_of text = cond (length text == 1 && (nat_le 48 (slice_index text 0) && nat_le (slice_index text 0) 57)) (Some (lot (slice_index text 0 - 48))) None

abbrev pub written_lot : Lot → List ℕ
written_lot p = (48 + p.number % 10) ∷ []

abbrev pub from_lots : Option Lot → Option Lot → ℕ → Result Lots NumberingText
from_lots None last third = Err First
from_lots (Some first) None third = Err Second
from_lots (Some first) (Some last) third = cond (third == 0) (Ok (record { first = first.number; last = last.number })) (Err Third)

abbrev pub reading_of : List ℕ → List ℕ → List ℕ → Result Lots NumberingText
reading_of first second third = from_lots (lot_of first) (lot_of second) (length third)
