-- Address numbers as places. Assumes nothing.
use Rattle.std.specs.Prelude.{ℕ, ◌%◌, ◌^◌, Bool, List, ◌==◌}
use Rattle.text.specs.AddressNumber.{written_number}
use Rattle.text.specs.declared.address_number.AddressNumber.{AddressNumber}

abbrev pub address : ℕ → AddressNumber
address n = record { value = n }

abbrev pub same_number : AddressNumber → AddressNumber → Bool
same_number a b = a.value == b.value

-- the decimal digits of the number, which has 32 bits
abbrev pub written_place : AddressNumber → List ℕ
written_place place = written_number (address (place.value % 2 ^ 32))
