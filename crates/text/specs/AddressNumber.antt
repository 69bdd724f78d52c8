-- The texts of address numbers: 0 to 999999 in decimal digits, without a leading zero except "0" itself. Assumes nothing.
use Rattle.std.specs.Prelude.{◌≡◌, ℕ, ◌+◌, ◌-◌, ◌≤◌, Bool, cond, not, ◌&&◌, ◌||◌, ◌≢◌, ◌⊎◌, List, [], ◌∷◌, map, length, Some, None, decimal, Option, ◌==◌, nat_le, nat_lt, slice_index}
use Rattle.std.specs.Option.{option_map}
use Rattle.std.specs.Int.Digits.{number_from_digits, AllBelowBase}
use Rattle.std.specs.Str.{all_ascii_digits}
use Rattle.text.specs.declared.address_number.AddressNumber.{AddressNumber}

-- the most digits of a text, and the greatest number that they spell
abbrev pub most_digits : ℕ
most_digits = 6

abbrev pub greatest_number : ℕ
greatest_number = 999999

-- the most bytes that a number is written in
abbrev pub written_width : ℕ
written_width = 14

-- the bytes of the digits, and the digits of the bytes
abbrev pub spelled : List ℕ → List ℕ
spelled digits = map (λ digit. 48 + digit) digits

abbrev pub digits_of : List ℕ → List ℕ
digits_of text = map (λ byte. byte - 48) text

-- the number that the text spells, if it has digits alone
unfoldable pub digits_value : List ℕ → Option ℕ
digits_value text = cond (all_ascii_digits text) (Some (number_from_digits 10 (digits_of text))) None

-- one byte, or two to six of which the first is not "0"
abbrev pub well_begun : List ℕ → Bool
well_begun text =
    nat_lt 0 (length text) && (nat_le (length text) most_digits && (nat_le (length text) 1 || not (slice_index text 0 == 48)))

unfoldable pub read_number : List ℕ → Option AddressNumber
read_number text = cond (well_begun text) (option_map (λ n. record { value = n }) (digits_value text)) None

-- the decimal digits of the number
abbrev pub written_number : AddressNumber → List ℕ
written_number address = decimal address.value

-- the text spells the number by its digits, the first of which is not 0 unless it is the only one
pub record NumberText (text : List ℕ) (address : AddressNumber) : Type 0 where
  pub first : ℕ
  pub rest : List ℕ
  pub digits : AllBelowBase 10 (first ∷ rest)
  pub at_most_six : length (first ∷ rest) ≤ most_digits
  pub no_leading_zero : (first ≢ 0) ⊎ (rest ≡ [])
  pub spells : text ≡ spelled (first ∷ rest)
  pub value : address.value ≡ number_from_digits 10 (first ∷ rest)

-- a number that was read is not past the greatest
abbrev pub NotPast : Option AddressNumber → Type 0
NotPast None = Unit {0}
NotPast (Some address) = address.value ≤ greatest_number

-- what is written of a number up to the greatest reads back as it
abbrev pub ReadsBack : Type 0
ReadsBack = (address : AddressNumber) → address.value ≤ greatest_number → read_number (written_number address) ≡ Some address
