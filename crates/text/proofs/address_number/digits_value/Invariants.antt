use Rattle.std.proofs.Common.{◌≡◌, ◌^◌, ◌<◌, drop}
use Rattle.std.specs.Int.Digits.{number_from_digits, number_from_digits_after}
use Rattle.std.specs.Str.{all_ascii_digits}
use Rattle.text.specs.AddressNumber.{digits_of}
use Rattle.text.proofs.address_number.digits_value.Given as goal

-- what is left decides whether all are digits, and completes the number
abbrev pub invariant-loop-byte : goal.invariant-loop-byte
invariant-loop-byte l =
    (all_ascii_digits (drop l.byte-index l.text) ≡ all_ascii_digits l.text)
    × (number_from_digits_after 10 l.value (digits_of (drop l.byte-index l.text)) ≡ number_from_digits 10 (digits_of l.text))
    × (l.value < 10 ^ l.byte-index)
