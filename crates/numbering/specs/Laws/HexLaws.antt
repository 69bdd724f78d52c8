-- Hexadecimal texts are read exactly by their digits.
use Rattle.std.specs.Prelude.{◌≡◌, ℕ, ◌+◌, ◌*◌, ◌^◌, ◌<◌, ◌≤◌, List, [], ◌∷◌, map, length, drop, Some, ◌==◌, slice_index, refl}
use Rattle.std.proofs.Common.{sym, ap, ◌∙◌, arith}
use Rattle.std.proofs.Math.Nat.{pow-le-pow_right}
use Rattle.std.proofs.lemmas.List.{drop_all, drop_more, length-map}
use Rattle.std.proofs.lemmas.Bool.{cond-true, eq-eqb, eqb-true}
use Rattle.std.proofs.lemmas.Bool.Decides.{nat_tests}
use Rattle.std.proofs.lemmas.Option.{same_Some}
use Rattle.std.specs.Int.Digits.{number_from_digits_after, AllBelowBase}
use Rattle.std.specs.Option.{option_and_then}
use Rattle.promise.specs.Exactly.{Exactly}
use Rattle.text.proofs.Inversions.{and_then_apart, cond_apart}
use Rattle.numbering.specs.Hexadecimal.{HexText, digit_count, hex_after, hex_digit, hex_letter, hex_number}

-- a loop's step and its end
pub hex_more : (begun i : ℕ) (text : List ℕ) → i < length text
    → hex_after begun (drop i text) ≡ option_and_then (λ digit. hex_after (begun * 16 + digit) (drop (i + 1) text)) (hex_digit (slice_index text i))
unfolding hex_after
hex_more begun i text h = ap (hex_after begun) (drop_more text i 0 h)

pub hex_all : (begun i : ℕ) (text : List ℕ) → length text ≤ i → hex_after begun (drop i text) ≡ Some begun
unfolding hex_after
hex_all begun i text h = ap (hex_after begun) (drop_all i text h)

pub hex_sized : (text : List ℕ) → length text ≡ digit_count → hex_number text ≡ hex_after 0 text
hex_sized text is = cond-true _ _ _ (eq-eqb _ _ is)

pub digit_below : (byte digit : ℕ) → hex_digit byte ≡ Some digit → digit < 16
digit_below byte digit e = grind (arith, nat_tests)

-- fewer digits than are read leave room for one more
pub room : (n i : ℕ) → n < 16 ^ i → i < digit_count → n * 16 + 15 < 2 ^ 64
room n i small few =
    let at_most : i ≤ 15 = omega arith in omega (arith, pow-le-pow_right {n = 16} (omega arith) at_most)

digit_spells : (byte digit : ℕ) → hex_digit byte ≡ Some digit → byte ≡ hex_letter digit
digit_spells byte digit e = grind (arith, nat_tests)

digit_back : (digit : ℕ) → digit < 16 → hex_digit (hex_letter digit) ≡ Some digit
digit_back digit h = grind (arith, nat_tests)

record Spelled (begun : ℕ) (text : List ℕ) (value : ℕ) : Type 0 where
  digits : List ℕ
  below_sixteen : AllBelowBase 16 digits
  spells : text ≡ map hex_letter digits
  is_value : value ≡ number_from_digits_after 16 begun digits

after_spells : (begun : ℕ) (text : List ℕ) (value : ℕ) → hex_after begun text ≡ Some value → Spelled begun text value
unfolding hex_after
after_spells begun [] value e = record { digits = []; below_sixteen = tt; spells = refl; is_value = sym (same_Some begun value e) }
after_spells begun (byte ∷ text) value e =
    let p = and_then_apart (λ digit. hex_after (begun * 16 + digit) text) (hex_digit byte) value e in
    let digit = p.0 in
    let rest = after_spells (begun * 16 + digit) text value p.2 in
    let head = digit_spells byte digit p.1 in
    let tail = rest.spells in
    record { digits = digit ∷ rest.digits; below_sixteen = (digit_below byte digit p.1, rest.below_sixteen); spells = cc; is_value = rest.is_value }

after_back : (begun : ℕ) (digits : List ℕ) → AllBelowBase 16 digits → hex_after begun (map hex_letter digits) ≡ Some (number_from_digits_after 16 begun digits)
unfolding hex_after
after_back begun [] below = refl
after_back begun (digit ∷ digits) below = rw (digit_back digit below.0) (after_back (begun * 16 + digit) digits below.1)

pub hex_exactly : (text : List ℕ) → Exactly (HexText text) (hex_number text)
hex_exactly text = record {
  sound = λ value e.
      let sized = cond_apart (length text == digit_count) (hex_after 0 text) value e in
      let s = after_spells 0 text value sized.1 in
      record {
        digits = s.digits;
        below_sixteen = s.below_sixteen;
        count = sym (length-map _ _) ∙ ap length (sym s.spells) ∙ eqb-true _ _ sized.0;
        spells = s.spells;
        is_value = s.is_value;
      };
  complete = λ value form.
      let sized : length text ≡ digit_count = ap length form.spells ∙ length-map _ _ ∙ form.count in
      hex_sized text sized ∙ ap (hex_after 0) form.spells ∙ after_back 0 form.digits form.below_sixteen ∙ ap Some (sym form.is_value);
}
