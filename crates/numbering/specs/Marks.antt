-- Marks: 64 numbers in a row from a first one on, each held or not. Assumes nothing.
use Rattle.std.specs.Prelude.{◌≡◌, ℕ, ◌+◌, ◌-◌, ◌/◌, ◌%◌, ◌^◌, ◌≤◌, Bool, cond, ◌&&◌, List, [], length, Some, None, Option, Result, ◌==◌, nat_le, nat_lt}
use Rattle.std.specs.Option.{option_and_then}
use Rattle.territory.specs.declared.numberings.NumberingText.{NumberingText}
use Rattle.text.specs.AddressNumber.{NumberText, greatest_number, read_number}
use Rattle.text.specs.declared.address_number.AddressNumber.{AddressNumber}
use Rattle.numbering.specs.Hexadecimal.{HexText, hex_number}
use Rattle.numbering.specs.Places.{address}
use Rattle.numbering.specs.ThreeTexts.{FirstAtFault, read_three}
use Rattle.numbering.specs.declared.mark_sets.Marks.{Marks}

-- how many numbers are marked or not
abbrev pub mark_count : ℕ
mark_count = 64

-- the greatest first number: from it on the last number is the greatest of all
abbrev pub greatest_first : ℕ
greatest_first = 999936

unfoldable pub bit_set : ℕ → ℕ → Bool
bit_set bits i = bits / 2 ^ i % 2 == 1

abbrev pub marks_past : Marks → ℕ
marks_past marks = marks.first + mark_count

-- number first + i, where bit i is set
abbrev pub marks_hold : Marks → ℕ → Bool
marks_hold marks n =
    (nat_le marks.first n && nat_lt n (marks_past marks)) && (nat_le n greatest_number && bit_set marks.bits (n - marks.first))

-- the text spells a number that marks may begin with
pub record FirstText (text : List ℕ) (first : AddressNumber) : Type 0 where
  pub number_text : NumberText text first
  pub at_most : first.value ≤ greatest_first

-- the three texts spell the marks
pub record MarksTexts (first second third : List ℕ) (marks : Marks) : Type 0 where
  pub first_text : FirstText first (address marks.first)
  pub bits_text : HexText second marks.bits
  pub third_empty : third ≡ []

-- the first text at fault, if any
abbrev pub MarksFault : List ℕ → List ℕ → List ℕ → Option NumberingText → Type 0
MarksFault first second third = FirstAtFault (FirstText first) (HexText second) (MarksTexts first second third)

abbrev pub if_at_most : AddressNumber → Option AddressNumber
if_at_most first = cond (nat_le first.value greatest_first) (Some first) None

abbrev pub first_number : List ℕ → Option AddressNumber
first_number text = option_and_then if_at_most (read_number text)

abbrev pub marks_from : List ℕ → AddressNumber → ℕ → Option Marks
marks_from third first bits = cond (length third == 0) (Some (record { first = first.value; bits = bits })) None

abbrev pub marks_reading : List ℕ → List ℕ → List ℕ → Result Marks NumberingText
marks_reading first second third = read_three (first_number first) (hex_number second) (marks_from third)
