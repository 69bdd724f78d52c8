-- What ranges hold, and the texts that they are read from.
use Rattle.std.specs.Prelude.{◌≡◌, ℕ, ◌<◌, true, List, Some, Option, refl}
use Rattle.std.proofs.Common.{subst, arith}
use Rattle.std.proofs.lemmas.Bool.Decides.{nat_tests}
use Rattle.std.proofs.lemmas.Option.{cond_some}
use Rattle.std.specs.Result.{result_err, result_ok}
use Rattle.promise.specs.Exactly.{Exactly}
use Rattle.territory.specs.declared.numberings.NumberingText.{NumberingText}
use Rattle.text.specs.AddressNumber.{NumberText, read_number}
use Rattle.text.specs.declared.address_number.AddressNumber.{AddressNumber}
use Rattle.text.proofs.Inversions.{and_then_apart}
use Rattle.text.proofs.NumberLaws.{number_exactly}
use Rattle.numbering.specs.Parities.{agrees, parity_of}
use Rattle.numbering.specs.Places.{address}
use Rattle.numbering.specs.Ranges.{RangeFault, RangeTexts, if_agreed, range_between, range_holds, range_past, range_reading}
use Rattle.numbering.specs.declared.ranges.Range.{Range}
use Rattle.numbering.specs.Laws.ParityLaws.{agrees_decides, parity_exactly}
use Rattle.numbering.specs.Laws.ThreeReads.{three_told}

pub bounded : (r : Range) (n : ℕ) → range_holds r n ≡ true → n < range_past r
bounded r n h = grind (arith, nat_tests)

module _ (first second third : List ℕ) where
  joins : (from to : AddressNumber) (range : Range) → NumberText first from → NumberText second to
      → range_between third from to ≡ Some range → RangeTexts first second third range
  joins from to range from_text to_text e =
      let lettered = and_then_apart (if_agreed from.value to.value) (parity_of third) range e in
      let parity = lettered.0 in
      let agreed = cond_some (agrees parity from.value to.value) _ range lettered.2 in
      subst (RangeTexts first second third) agreed.1
      (record {
        from_text = from_text;
        to_text = to_text;
        letter_text = (parity_exactly third).sound parity lettered.1;
        agreed = (agrees_decides parity from.value to.value).0 agreed.0;
      })

  splits : (range : Range) → RangeTexts first second third range
      → (from : AddressNumber) × (to : AddressNumber) × NumberText first from × NumberText second to × (range_between third from to ≡ Some range)
  splits range texts =
      let parity = range.parity in
      let read = (parity_exactly third).complete parity texts.letter_text in
      let agreed = (agrees_decides parity range.from range.to).1 texts.agreed in
      (address range.from, address range.to, texts.from_text, texts.to_text, rw (read, agreed) refl)

  pub range_told : Exactly (RangeTexts first second third) (result_ok (range_reading first second third)) × RangeFault first second third (result_err (range_reading first second third))
  range_told = three_told (read_number first) (read_number second) (range_between third) (number_exactly first) (number_exactly second) joins splits

  pub exactly_told : (r : Option Range) → r ≡ result_ok (range_reading first second third) → Exactly (RangeTexts first second third) r
  exactly_told r e = rw e range_told.0

  pub fault_told : (r : Option NumberingText) → r ≡ result_err (range_reading first second third) → RangeFault first second third r
  fault_told r e = rw e range_told.1
