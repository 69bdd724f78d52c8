-- Ranges: the numbers of one parity between two ends. Assumes nothing.
use Rattle.std.specs.Prelude.{◌≡◌, ℕ, suc, min, max, Bool, cond, ◌&&◌, List, Some, None, Option, Result, nat_le}
use Rattle.std.specs.Option.{option_and_then}
use Rattle.territory.specs.declared.numberings.NumberingText.{NumberingText}
use Rattle.text.specs.AddressNumber.{NumberText, read_number}
use Rattle.text.specs.declared.address_number.AddressNumber.{AddressNumber}
use Rattle.numbering.specs.Parities.{Agrees, agrees, allows, letter, parity_of}
use Rattle.numbering.specs.Places.{address}
use Rattle.numbering.specs.ThreeTexts.{FirstAtFault, read_three}
use Rattle.numbering.specs.declared.parities.Parity.{Parity}
use Rattle.numbering.specs.declared.ranges.Range.{Range}

-- the smaller and the greater end
abbrev pub low : Range → ℕ
low range = min range.from range.to

abbrev pub high : Range → ℕ
high range = max range.from range.to

-- the numbers of its parity between its ends, both included
abbrev pub range_holds : Range → ℕ → Bool
range_holds range n = (nat_le (low range) n && nat_le n (high range)) && allows range.parity n

abbrev pub range_past : Range → ℕ
range_past range = suc (high range)

-- the three texts spell the range
pub record RangeTexts (first second third : List ℕ) (range : Range) : Type 0 where
  pub from_text : NumberText first (address range.from)
  pub to_text : NumberText second (address range.to)
  pub letter_text : third ≡ letter range.parity
  pub agreed : Agrees range.parity range.from range.to

-- the first text at fault, if any: the ends are address numbers, and the rest is the third text's
abbrev pub RangeFault : List ℕ → List ℕ → List ℕ → Option NumberingText → Type 0
RangeFault first second third = FirstAtFault (NumberText first) (NumberText second) (RangeTexts first second third)

abbrev pub if_agreed : ℕ → ℕ → Parity → Option Range
if_agreed from to parity = cond (agrees parity from to) (Some (record { from = from; to = to; parity = parity })) None

abbrev pub range_between : List ℕ → AddressNumber → AddressNumber → Option Range
range_between third from to = option_and_then (if_agreed from.value to.value) (parity_of third)

abbrev pub range_reading : List ℕ → List ℕ → List ℕ → Result Range NumberingText
range_reading first second third = read_three (read_number first) (read_number second) (range_between third)
