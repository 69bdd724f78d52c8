-- Tenths of a second are read exactly from a point and a digit, or from neither.
use Rattle.std.proofs.Common.{◌≡◌, ℕ, ◌+◌, ◌%◌, Bool, true, false, cond, List, [], ◌++◌, get_or, take, drop, ℤ, codes, sym, refl, arith, lit<}
use Rattle.std.proofs.lemmas.Slice.Eq.{text_from_reads}
use Rattle.std.proofs.lemmas.List.{take-append-drop, get_or-take}
use Rattle.instant.specs.DateTime.{Fraction, Zone}
use Rattle.instant.specs.DateTime.Fraction.{absent, present}
use Rattle.instant.specs.Form.{has_form, begins, one_digit}
use Rattle.instant.specs.Reading.{tenths_in}
use Rattle.instant.proofs.Digits.{digit_fits, one_read}
use Rattle.instant.proofs.Shapes.{form_length, mark_at, digit_at}
use Rattle.instant.proofs.Zones.{no_fraction}

fraction_found : (text : List ℕ) → has_form (codes ".0") (take 2 text) ≡ true → Fraction (take 2 text) (one_digit text 1)
fraction_found text h =
    let front = take 2 text in
    let point = mark_at (codes ".0") front h 0 (lit< tt) (λ e. omega arith) in
    let digit = digit_at (codes ".0") front h 1 (lit< tt) refl in
    let same = get_or-take 2 text 1 0 (lit< tt) in
    let second : get_or front 1 0 ≡ 48 + one_digit text 1 % 10 = omega arith in
    present (text_from_reads front _ (form_length (codes ".0") front h) (point, (second, tt))) (omega arith)

-- the fraction that tenths are read from, and what follows it
pub record Parts (text : List ℕ) (read : ℕ × List ℕ) : Type 0 where
  pub fraction : List ℕ
  pub parts : text ≡ fraction ++ read.1
  pub of_fraction : Fraction fraction read.0

parts_found : (text : List ℕ) (begun : Bool) → begins (codes ".0") text ≡ begun → Parts text (cond begun (one_digit text 1, drop 2 text) (0, text))
parts_found text true h = record { fraction = take 2 text; parts = sym (take-append-drop 2 text); of_fraction = fraction_found text h }
parts_found text false h = record { fraction = []; parts = refl; of_fraction = absent refl refl }

pub tenths_sound : (text : List ℕ) → Parts text (tenths_in text)
tenths_sound text = parts_found text (begins (codes ".0") text) refl

pub tenths_complete : {fraction zone : List ℕ} {tenths : ℕ} {ahead : ℤ} → Fraction fraction tenths → Zone zone ahead → tenths_in (fraction ++ zone) ≡ (tenths, zone)
unfolding has_form
tenths_complete (absent form value) z = rw (form, value, no_fraction z)
tenths_complete {tenths = tenths} (present form h) z = rw (form, digit_fits tenths, one_read tenths h)
