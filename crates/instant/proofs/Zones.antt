-- A zone is read exactly from `Z`, `+hh:mm` or `-hh:mm`.
use Rattle.std.proofs.Common.{◌≡◌, ℕ, ◌+◌, ◌*◌, ◌<◌, true, false, ◌&&◌, List, ◌++◌, take, drop, ℤ, pos, neg_ℤ, Some, None, Option, codes, sym, refl, ap, arith, lit<, rules}
use Rattle.std.proofs.lemmas.Slice.Eq.{text_from_reads}
use Rattle.std.proofs.lemmas.Bool.Decides.{nat_tests}
use Rattle.std.proofs.lemmas.Bool.{and_parts, cond_both}
use Rattle.std.proofs.lemmas.Option.{cond_some, none-some}
use Rattle.std.specs.Option.{option_map}
use Rattle.instant.specs.DateTime.{is_offset, Offset, Zone}
use Rattle.instant.specs.DateTime.Zone.{utc, plus, minus}
use Rattle.instant.specs.Form.{has_form, begins, two_digits, digits2}
use Rattle.instant.specs.Reading.{offset_in, zone_in}
use Rattle.instant.proofs.Digits.{digit_fits, two_read}
use Rattle.instant.proofs.Found.{mapped_found}
use Rattle.instant.proofs.Fronts.{byte_alone, byte_before}
use Rattle.instant.proofs.Shapes.{form_length, mark_at, two_at}

offset_found : (text : List ℕ) (offset : ℕ) → offset_in text ≡ Some offset → Offset text offset
offset_found text offset e =
    let form = codes "00:00" in
    let told = cond_some (has_form form text && is_offset (two_digits text 0) (two_digits text 3)) (60 * two_digits text 0 + two_digits text 3) offset e in
    let parts = and_parts (has_form form text) (is_offset (two_digits text 0) (two_digits text 3)) told.0 in
    let hours = two_at form text parts.0 0 (lit< tt) refl refl in
    let minutes = two_at form text parts.0 3 (lit< tt) refl refl in
    let middle = mark_at form text parts.0 2 (lit< tt) (λ e. omega arith) in
    record {
      hours = two_digits text 0;
      minutes = two_digits text 3;
      form = text_from_reads text (digits2 (two_digits text 0) ++ codes ":" ++ digits2 (two_digits text 3)) (form_length form text parts.0) (search rules);
      limits = parts.1;
      value = sym told.1;
    }

offset_form : {text : List ℕ} {offset : ℕ} → Offset text offset → has_form (codes "00:00") text ≡ true
unfolding has_form
offset_form m = rw m.form (simp digit_fits)

offset_read : {text : List ℕ} {offset : ℕ} → Offset text offset → offset_in text ≡ Some offset
offset_read m =
    let below : (m.hours < 100) × (m.minutes < 100) = let limits = m.limits in grind (arith, nat_tests) in
    rw (offset_form m) (rw (m.form, two_read m.hours below.0, two_read m.minutes below.1, m.limits, m.value))

module _ (text : List ℕ) (ahead : ℤ) where
  plus_found : begins (codes "+") text ≡ true → option_map pos (offset_in (drop 1 text)) ≡ Some ahead → Zone text ahead
  plus_found h e =
      let offset = mapped_found pos (offset_in (drop 1 text)) ahead e in
      plus (drop 1 text) offset.0 (byte_before 43 (λ e. omega arith) text h) (offset_found (drop 1 text) offset.0 offset.1) offset.2

  minus_found : begins (codes "-") text ≡ true → option_map (λ n. neg_ℤ (pos n)) (offset_in (drop 1 text)) ≡ Some ahead → Zone text ahead
  minus_found h e =
      let offset = mapped_found (λ n. neg_ℤ (pos n)) (offset_in (drop 1 text)) ahead e in
      minus (drop 1 text) offset.0 (byte_before 45 (λ e. omega arith) text h) (offset_found (drop 1 text) offset.0 offset.1) offset.2

  pub zone_sound : zone_in text ≡ Some ahead → Zone text ahead
  zone_sound =
      let Told : Option ℤ → Type 0 = λ o. o ≡ Some ahead → Zone text ahead in
      let neither : None ≡ Some ahead → Zone text ahead = λ e. absurd (none-some ahead e) in
      let signed = λ (_ : begins (codes "+") text ≡ false). cond_both (begins (codes "-") text) _ None Told minus_found (λ _. neither) in
      let utc_found = λ (z : has_form (codes "Z") text ≡ true) (e : Some (pos 0) ≡ Some ahead). utc (byte_alone 90 (λ e. omega arith) text z) cc in
      cond_both (has_form (codes "Z") text) (Some (pos 0)) _ Told utc_found (λ _. cond_both (begins (codes "+") text) _ _ Told plus_found signed)

pub zone_complete : (text : List ℕ) (ahead : ℤ) → Zone text ahead → zone_in text ≡ Some ahead
unfolding has_form
zone_complete text ahead (utc form value) = rw (form, value)
zone_complete text ahead (plus rest offset form m value) = rw (form, value) (ap (option_map pos) (offset_read m))
zone_complete text ahead (minus rest offset form m value) = rw (form, value) (ap (option_map (λ n. neg_ℤ (pos n))) (offset_read m))

pub no_fraction : {zone : List ℕ} {ahead : ℤ} → Zone zone ahead → has_form (codes ".0") (take 2 zone) ≡ false
unfolding has_form
no_fraction (utc form value) = rw form
no_fraction (plus rest offset form m value) = rw form
no_fraction (minus rest offset form m value) = rw form
