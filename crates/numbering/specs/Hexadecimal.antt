-- Hexadecimal numbers of a fixed count of digits, 0 to 9 and A to F, the highest first. Assumes nothing.
use Rattle.std.specs.Prelude.{◌≡◌, ℕ, ◌+◌, ◌-◌, ◌*◌, cond, ◌&&◌, List, [], ◌∷◌, map, length, Some, None, Option, ◌==◌, nat_le, nat_lt}
use Rattle.std.specs.Int.Digits.{number_from_digits, AllBelowBase}
use Rattle.std.specs.Option.{option_and_then}

abbrev pub digit_count : ℕ
digit_count = 16

-- the byte of a digit: "0" on, or "A" on
abbrev pub hex_letter : ℕ → ℕ
hex_letter digit = cond (nat_lt digit 10) (48 + digit) (65 + (digit - 10))

-- the text spells the number by its digits
pub record HexText (text : List ℕ) (value : ℕ) : Type 0 where
  pub digits : List ℕ
  pub below_sixteen : AllBelowBase 16 digits
  pub count : length digits ≡ digit_count
  pub spells : text ≡ map hex_letter digits
  pub is_value : value ≡ number_from_digits 16 digits

abbrev pub hex_digit : ℕ → Option ℕ
hex_digit byte =
    cond (nat_le 48 byte && nat_le byte 57) (Some (byte - 48)) (cond (nat_le 65 byte && nat_le byte 70) (Some (byte - 65 + 10)) None)

-- the number that the text completes
unfoldable pub hex_after : ℕ → List ℕ → Option ℕ
hex_after begun [] = Some begun
hex_after begun (byte ∷ rest) = option_and_then (λ digit. hex_after (begun * 16 + digit) rest) (hex_digit byte)

abbrev pub hex_number : List ℕ → Option ℕ
hex_number text = cond (length text == digit_count) (hex_after 0 text) None
