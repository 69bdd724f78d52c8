-- What marks hold, and the texts that they are read from.
use Rattle.std.specs.Prelude.{◌≡◌, ℕ, ◌+◌, ◌-◌, ◌/◌, ◌%◌, ◌^◌, ◌<◌, ◌≤◌, max, true, false, List, length, Some, None, Option, ◌==◌, ◌≢◌, bit_and, nat_eq, nat_le, refl}
use Rattle.std.proofs.Common.{ap, subst, ◌∙◌, inl, inr, arith}
use Rattle.std.specs.Int.Count.{count_trailing_zeros}
use Rattle.std.proofs.lemmas.Bool.{cases_lt, eqb-true, le-leb, leb-true}
use Rattle.std.proofs.lemmas.Bool.Decides.{nat_tests}
use Rattle.std.proofs.lemmas.List.{nil_from_length}
use Rattle.std.proofs.lemmas.Option.{cond_some}
use Rattle.std.specs.Result.{result_err, result_ok}
use Rattle.promise.specs.Exactly.{Exactly}
use Rattle.text.specs.AddressNumber.{greatest_number, read_number}
use Rattle.text.specs.declared.address_number.AddressNumber.{AddressNumber}
use Rattle.text.proofs.Inversions.{and_then_apart}
use Rattle.text.proofs.NumberLaws.{number_exactly}
use Rattle.territory.specs.declared.numberings.NumberingText.{NumberingText}
use Rattle.numbering.specs.Hexadecimal.{HexText, hex_number}
use Rattle.numbering.specs.Least.{Least, both_hold}
use Rattle.numbering.specs.Marks.{FirstText, MarksFault, MarksTexts, bit_set, first_number, greatest_first, if_at_most, marks_from, marks_hold, marks_past, marks_reading}
use Rattle.numbering.specs.Places.{address}
use Rattle.numbering.specs.declared.mark_sets.Marks.{Marks}
use Rattle.numbering.specs.Laws.BitLaws.{bit_both, bit_shifted, lowest, Lowest, no_bit_past}
use Rattle.numbering.specs.Laws.HexLaws.{hex_exactly}
use Rattle.numbering.specs.Laws.Leasts.{none_least, some_least}
use Rattle.numbering.specs.Laws.ThreeReads.{three_told}

pub bounded : (m : Marks) (n : ℕ) → marks_hold m n ≡ true → n < marks_past m
bounded m n h = grind (arith, nat_tests)

first_bit : (bits i rest : ℕ) → rest ≡ bits / 2 ^ i → (rest % 2 == 1) ≡ bit_set bits i
unfolding bit_set
first_bit bits i rest is = ap (λ m. nat_eq (m % 2) 1) is

pub told_by_bit : (m : Marks) (n rest : ℕ) → m.bits < 2 ^ 64 → rest ≡ m.bits / 2 ^ (n - m.first)
    → (m.first ≤ n) × (n ≤ greatest_number) → (rest % 2 == 1) ≡ marks_hold m n
told_by_bit m n rest small is within =
    first_bit m.bits (n - m.first) rest is ∙ grind (arith, nat_tests, no_bit_past m.bits 64 (n - m.first) small)

-- the bits from a number on, as told from there
seen : (m : Marks) (from n : ℕ) → m.first ≤ from → from ≤ n → bit_set (m.bits / 2 ^ (from - m.first)) (n - from) ≡ bit_set m.bits (n - m.first)
seen m from n a b =
    let whole : from - m.first + (n - from) ≡ n - m.first = omega arith in
    bit_shifted m.bits (from - m.first) (n - from) ∙ ap (bit_set m.bits) whole

pub shares : (s t : Marks) (first : ℕ) → s.bits < 2 ^ 64 → t.bits < 2 ^ 64 → first ≡ max s.first t.first
    → (n : ℕ) → marks_hold (record { first = first; bits = bit_and (s.bits / 2 ^ (first - s.first)) (t.bits / 2 ^ (first - t.first)) }) n ≡ both_hold marks_hold s t n
shares s t first small small' is n =
    elim (cases_lt n first) [
      | inl before ↦ grind (arith, nat_tests)
      | inr after ↦
          let both = bit_both (s.bits / 2 ^ (first - s.first)) (t.bits / 2 ^ (first - t.first)) (n - first) in
          let own = seen s first n (omega arith) after in
          let others = seen t first n (omega arith) after in
          grind (arith, nat_tests, no_bit_past s.bits 64 (n - s.first) small, no_bit_past t.bits 64 (n - t.first) small')
    ]

pub none_marked : (m : Marks) → m.bits ≡ 0 → Least marks_hold m m None
none_marked m empty =
    none_least marks_hold m m (λ n h. let unset : bit_set m.bits (n - m.first) ≡ false = rw empty (no_bit_past 0 0 (n - m.first) (omega arith) (omega arith)) in grind (arith, nat_tests))

pub past_greatest : (m : Marks) → greatest_number < m.first → Least marks_hold m m None
past_greatest m past = none_least marks_hold m m (λ n h. grind (arith, nat_tests))

module _ (m : Marks) (some : 0 < m.bits) (small : m.bits < 2 ^ 64) where
  lowest_bit : Lowest 64 m.bits (count_trailing_zeros 64 m.bits)
  lowest_bit = lowest 64 m.bits some small

  none_before : (n : ℕ) → n < m.first + count_trailing_zeros 64 m.bits → both_hold marks_hold m m n ≢ true
  none_before n before h =
      let unset = lowest_bit.none_lower (n - m.first) in
      grind (arith, nat_tests)

  pub lowest_past : greatest_number < m.first + count_trailing_zeros 64 m.bits → Least marks_hold m m None
  lowest_past past = none_least marks_hold m m (λ n h. none_before n (grind (arith, nat_tests)) h)

  pub at_lowest : m.first + count_trailing_zeros 64 m.bits ≤ greatest_number → Least marks_hold m m (Some (address (m.first + count_trailing_zeros 64 m.bits)))
  at_lowest within =
      let at = count_trailing_zeros 64 m.bits in
      let place : m.first + at - m.first ≡ at = omega arith in
      let here : bit_set m.bits (m.first + at - m.first) ≡ true = rw place lowest_bit.is_set in
      let below = lowest_bit.below in
      some_least marks_hold m m (m.first + at) (grind (arith, nat_tests)) none_before

first_exactly : (text : List ℕ) → Exactly (FirstText text) (first_number text)
first_exactly text = record {
  sound = λ first e.
      let read = and_then_apart if_at_most (read_number text) first e in
      let early = cond_some (nat_le read.0.value greatest_first) read.0 first read.2 in
      subst (FirstText text) early.1
      (record { number_text = (number_exactly text).sound read.0 read.1; at_most = leb-true _ _ early.0 });
  complete = λ first form. rw ((number_exactly text).complete first form.number_text, le-leb _ _ form.at_most) refl;
}

module _ (first second third : List ℕ) where
  joins : (number : AddressNumber) (bits : ℕ) (marks : Marks) → FirstText first number → HexText second bits
      → marks_from third number bits ≡ Some marks → MarksTexts first second third marks
  joins number bits marks first_text bits_text e =
      let empty = cond_some (length third == 0) _ marks e in
      subst (MarksTexts first second third) empty.1
      (record { first_text = first_text; bits_text = bits_text; third_empty = nil_from_length third (eqb-true _ _ empty.0) })

  splits : (marks : Marks) → MarksTexts first second third marks
      → (number : AddressNumber) × (bits : ℕ) × FirstText first number × HexText second bits × (marks_from third number bits ≡ Some marks)
  splits marks texts = (address marks.first, marks.bits, texts.first_text, texts.bits_text, rw texts.third_empty refl)

  pub marks_told : Exactly (MarksTexts first second third) (result_ok (marks_reading first second third)) × MarksFault first second third (result_err (marks_reading first second third))
  marks_told = three_told (first_number first) (hex_number second) (marks_from third) (first_exactly first) (hex_exactly second) joins splits

  pub exactly_told : (r : Option Marks) → r ≡ result_ok (marks_reading first second third) → Exactly (MarksTexts first second third) r
  exactly_told r e = rw e marks_told.0

  pub fault_told : (r : Option NumberingText) → r ≡ result_err (marks_reading first second third) → MarksFault first second third r
  fault_told r e = rw e marks_told.1
