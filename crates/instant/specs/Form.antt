-- Texts of a fixed layout: which bytes stand where, and the numbers that their digits write. Assumes nothing.
use Rattle.std.specs.Prelude.{ℕ, ◌+◌, ◌-◌, ◌*◌, ◌/◌, ◌%◌, Bool, true, false, cond, ◌&&◌, List, [], ◌∷◌, ◌++◌, length, take, ◌==◌, nat_le, slice_index}

-- a 0 of the form stands for any digit, and any other byte for itself
abbrev pub fits : ℕ → ℕ → Bool
fits mark byte = cond (mark == 48) (nat_le 48 byte && nat_le byte 57) (mark == byte)

unfoldable pub has_form : List ℕ → List ℕ → Bool
has_form [] [] = true
has_form [] (byte ∷ text) = false
has_form (mark ∷ form) [] = false
has_form (mark ∷ form) (byte ∷ text) = fits mark byte && has_form form text

-- the text's front has the form
abbrev pub begins : List ℕ → List ℕ → Bool
begins form text = has_form form (take (length form) text)

-- the number that the digit at a place writes, and the two digits from a place on
abbrev pub one_digit : List ℕ → ℕ → ℕ
one_digit text place = slice_index text place - 48

abbrev pub two_digits : List ℕ → ℕ → ℕ
two_digits text place = 10 * one_digit text place + one_digit text (place + 1)

-- a number's last digit, last two and last four, written
abbrev pub digits1 : ℕ → List ℕ
digits1 n = (48 + n % 10) ∷ []

abbrev pub digits2 : ℕ → List ℕ
digits2 n = digits1 (n / 10) ++ digits1 n

abbrev pub digits4 : ℕ → List ℕ
digits4 n = digits2 (n / 100) ++ digits2 n
