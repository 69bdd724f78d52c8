-- What is read is within the limits, and a missing text is read as its limit exactly.
use Rattle.std.proofs.Common.{◌≡◌, ℕ, ◌≤◌, true, List, [], ◌∷◌, ◌≤ℤ◌, ◌<ℤ◌, Some, None, Option, refl, inl, inr, arith}
use Rattle.std.proofs.lemmas.Int.{ints}
use Rattle.promise.specs.Exactly.{Exactly}
use Rattle.instant.specs.declared.date_time.Instant.{Instant}
use Rattle.instant.specs.DateTime.{Fraction, Tells}
use Rattle.instant.specs.DateTime.Fraction.{absent, present}
use Rattle.instant.specs.Form.{has_form}
use Rattle.instant.specs.Limits.{earliest, latest, is_within, SomeWithin, instant_or, TellsOr}
use Rattle.instant.specs.Reading.{instant_in}
use Rattle.instant.proofs.Exact.{instant_exactly}
use Rattle.instant.proofs.Near.{time_near, zone_near}
use Rattle.instant.proofs.Zones.{zone_complete}

fraction_le : {text : List ℕ} {tenths : ℕ} → Fraction text tenths → tenths ≤ 9
fraction_le (absent form value) = omega arith
fraction_le (present form h) = h

tells_within : (text : List ℕ) (instant : Instant) → Tells text instant → is_within instant ≡ true
tells_within text instant m =
    let time = time_near m.of_local.time m.of_local.limits in
    let seconds = m.of_local.value in
    let tenths = fraction_le m.of_fraction in
    let zone = zone_near m.zone m.ahead (zone_complete m.zone m.ahead m.of_zone) in
    let value = m.value in
    let low : earliest.tenths ≤ℤ instant.tenths = rw value (omega (arith, ints)) in
    let high : instant.tenths <ℤ latest.tenths = rw value (omega (arith, ints)) in
    grind (arith, ints)

some_within : (text : List ℕ) (o : Option Instant) → instant_in text ≡ o → SomeWithin o
some_within text None e = tt
some_within text (Some instant) e = tells_within text instant ((instant_exactly text).sound instant e)

instant_or_exactly : (missing : Instant) (text : List ℕ) → Exactly (TellsOr missing text) (instant_or missing text)
unfolding has_form instant_in
instant_or_exactly missing [] =
    record {
      sound = λ instant e. inl (refl, cc);
      complete = λ instant m.
          elim m [ inl same ↦ rw same.1 | inr tells ↦ cc ((instant_exactly []).complete instant tells) ];
    }
instant_or_exactly missing (byte ∷ text) =
    record {
      sound = λ instant e. inr ((instant_exactly (byte ∷ text)).sound instant e);
      complete = λ instant m.
          elim m [ inl same ↦ cc same.0 | inr tells ↦ (instant_exactly (byte ∷ text)).complete instant tells ];
    }

pub exactly_or : (missing : Instant) (text : List ℕ) (r : Option Instant) → r ≡ instant_or missing text → Exactly (TellsOr missing text) r
exactly_or missing text r e = rw e (instant_or_exactly missing text)

pub exactly_read : (text : List ℕ) (r : Option Instant) → r ≡ instant_in text → Exactly (Tells text) r
exactly_read text r e = rw e (instant_exactly text)

-- what is promised of an answer that is what the text says
pub promised : (text : List ℕ) (r : Option Instant) → r ≡ instant_in text → record { meaning : r ≡ instant_in text; exactly : Exactly (Tells text) r; within : SomeWithin r }
promised text r e = record { meaning = e; exactly = exactly_read text r e; within = rw e (some_within text (instant_in text) refl) }
