-- Address numbers are places: written in few bytes, and read back.
use Rattle.std.specs.Prelude.{◌≡◌, ℕ, ◌%◌, ◌^◌, List, Some, refl}
use Rattle.std.proofs.Common.{sym, ap, ◌∙◌, arith}
use Rattle.std.proofs.lemmas.Fmt.{decimal_nonempty, length-decimal-le}
use Rattle.std.proofs.lemmas.Bool.{eq-eqb}
use Rattle.territory.specs.Places.{WritesPlaces}
use Rattle.text.specs.AddressNumber.{read_number, written_number}
use Rattle.text.specs.declared.address_number.AddressNumber.{AddressNumber}
use Rattle.text.proofs.NumberLaws.{not_past, reads_back}
use Rattle.numbering.specs.Places.{address, same_number, written_place}

back : (text : List ℕ) (p : AddressNumber) → read_number text ≡ Some p → read_number (written_place p) ≡ Some p
back text p e =
    let small = not_past text (Some p) (sym e) in
    let whole : p.value % 2 ^ 32 ≡ p.value = omega arith in
    ap (λ n. read_number (written_number (address n))) whole ∙ reads_back p small

pub places_written : WritesPlaces same_number read_number written_place
places_written = record {
  some_bytes = λ p. decimal_nonempty (p.value % 2 ^ 32) (omega arith);
  few_bytes = λ p. omega (arith, length-decimal-le 10 (p.value % 2 ^ 32) (omega arith) (omega arith) (omega arith));
  reads_back = λ text p e. (p, back text p e, eq-eqb p.value p.value refl);
}
