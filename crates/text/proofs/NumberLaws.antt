-- Reading address numbers answers exactly their form, and reads back what is written.
use Rattle.std.proofs.Common.{◌≡◌, ℕ, ◌+◌, ◌-◌, ◌≤◌, true, ◌≢◌, ◌⊎◌, List, [], ◌∷◌, length, Some, None, decimal, Option, sym, refl, ap, inl, inr, arith, rules}
use Rattle.std.proofs.lemmas.List.{length-map}
use native.Mathlib.Nat.{pow-le-pow_right}
use Rattle.std.specs.Int.Digits.{number_from_digits, number_from_digits_after, AllBelowBase}
use Rattle.std.specs.Str.{all_ascii_digits}
use Rattle.std.specs.Char.{is_ascii_digit}
use Rattle.std.proofs.lemmas.Bool.{and_parts, and_from, cases_lt}
use Rattle.std.proofs.lemmas.Bool.Decides.{nat_tests}
use Rattle.std.proofs.lemmas.Fmt.{length-decimal-le, decimal_nonempty, first_decimal, decimal_digit, digits_decimal, digits_value-decimal}
use Rattle.std.proofs.lemmas.Int.Digits.{number_lt}
use Rattle.std.proofs.lemmas.Str.Parse.{IsNumeralModel, numerals_by_fold, tells_all_ascii_digits}
use Rattle.promise.specs.Exactly.{Exactly}
use Rattle.text.proofs.Inversions.{cond_apart, mapped_apart, none_some}
use Rattle.text.specs.AddressNumber.{NotPast, NumberText, ReadsBack, digits_of, digits_value, greatest_number, most_digits, read_number, spelled, well_begun}
use Rattle.text.specs.declared.address_number.AddressNumber.{AddressNumber}

under_digits : (text : List ℕ) → all_ascii_digits text ≡ true → AllBelowBase 10 (digits_of text)
under_digits [] h = tt
under_digits (b ∷ bs) h = let p = and_parts (is_ascii_digit b) (all_ascii_digits bs) h in (grind (arith, nat_tests), under_digits bs p.1)

spells_digits : (text : List ℕ) → all_ascii_digits text ≡ true → text ≡ spelled (digits_of text)
spells_digits [] h = refl
spells_digits (b ∷ bs) h =
    let p = and_parts (is_ascii_digit b) (all_ascii_digits bs) h in
    let head : b ≡ 48 + (b - 48) = grind (arith, nat_tests) in
    let tail : bs ≡ spelled (digits_of bs) = spells_digits bs p.1 in cc

all_spelled : (digits : List ℕ) → AllBelowBase 10 digits → all_ascii_digits (spelled digits) ≡ true
all_spelled [] u = refl
all_spelled (d ∷ ds) u = let here : is_ascii_digit (48 + d) ≡ true = grind (arith, nat_tests) in and_from _ _ here (all_spelled ds u.1)

digits_spelled : (digits : List ℕ) → digits_of (spelled digits) ≡ digits
digits_spelled [] = refl
digits_spelled (d ∷ ds) = let head : 48 + d - 48 ≡ d = omega arith in let tail = digits_spelled ds in cc

leading : (b : ℕ) (bs : List ℕ) → well_begun (b ∷ bs) ≡ true → is_ascii_digit b ≡ true → (b - 48 ≢ 0) ⊎ (digits_of bs ≡ [])
leading b [] begun digit = inr refl
leading b (x ∷ bs) begun digit = inl (grind (arith, nat_tests))

sound : (text : List ℕ) (place : AddressNumber) → read_number text ≡ Some place → NumberText text place
unfolding read_number digits_value
sound [] place e = none_some place e
sound (b ∷ bs) place e =
    let begun = cond_apart (well_begun (b ∷ bs)) _ place e in
    let made = mapped_apart (λ n. record { value = n }) (digits_value (b ∷ bs)) place begun.1 in
    let all = cond_apart (all_ascii_digits (b ∷ bs)) (Some (number_from_digits 10 (digits_of (b ∷ bs)))) made.0 made.1 in
    record {
      first = b - 48;
      rest = digits_of bs;
      digits = under_digits (b ∷ bs) all.0;
      at_most_six = simp length-map (grind (arith, nat_tests));
      no_leading_zero = leading b bs begun.0 (and_parts _ _ all.0).0;
      spells = spells_digits (b ∷ bs) all.0;
      value = let is = sym (ap (λ p. p.value) made.2) in let told = all.1 in cc;
    }

well_spelled : (d : ℕ) (ds : List ℕ) → length (d ∷ ds) ≤ most_digits → (d ≢ 0) ⊎ (ds ≡ []) → well_begun (spelled (d ∷ ds)) ≡ true
well_spelled d [] few led = refl
well_spelled d (x ∷ ds) few (inl h) = simp length-map (grind (arith, nat_tests))
well_spelled d (x ∷ ds) few (inr e) = cc

complete : (text : List ℕ) (place : AddressNumber) → NumberText text place → read_number text ≡ Some place
unfolding read_number digits_value
complete text place form =
    let ds = form.first ∷ form.rest in
    rw form.spells (rw (well_spelled form.first form.rest form.at_most_six form.no_leading_zero, all_spelled ds form.digits, digits_spelled ds) (ap (λ n. Some (record { value = n })) (sym form.value)))

pub number_exactly : (text : List ℕ) → Exactly (NumberText text) (read_number text)
number_exactly text = record { sound = sound text; complete = complete text }

pub not_past : (text : List ℕ) (answer : Option AddressNumber) → answer ≡ read_number text → NotPast answer
not_past text None is = tt
not_past text (Some place) is =
    let form = sound text place (sym is) in
    let digits = form.first ∷ form.rest in
    let few = pow-le-pow_right {n = 10} (omega arith) form.at_most_six in
    omega (arith, number_lt 10 digits form.digits, few, form.value)

own : IsNumeralModel (λ text. all_ascii_digits text ≡ true) (λ text. number_from_digits 10 (digits_of text))
own = numerals_by_fold _ tells_all_ascii_digits (λ n text. number_from_digits_after 10 n (digits_of text)) (search rules)

decimal_begun : (n : ℕ) → n ≤ greatest_number → well_begun (decimal n) ≡ true
decimal_begun n small =
    let few = length-decimal-le 6 n (omega arith) (omega arith) (omega arith) in
    let some = decimal_nonempty n (omega arith) in
    elim (cases_lt 0 n) [
      | inl h ↦ let first = first_decimal n h (omega arith) in grind (arith, nat_tests)
      | inr h ↦ let one = decimal_digit n (omega arith) in rw one (grind (arith, nat_tests))
    ]

pub reads_back : ReadsBack
unfolding read_number digits_value
reads_back place small =
    let n = place.value in
    rw (decimal_begun n small, digits_decimal own n (omega arith), digits_value-decimal own n (omega arith)) refl
