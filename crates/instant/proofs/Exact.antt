-- A text is read exactly when it is of the form, and to the instant that it tells.
use Rattle.std.proofs.Common.{ℕ, List, ◌++◌, take, drop, pos, ◌+ℤ◌, ◌*ℤ◌, Some, sym, refl, ap, ◌∙◌}
use Rattle.std.proofs.lemmas.List.{take-append-drop, append_assoc}
use Rattle.std.proofs.lemmas.Option.{option_and_then_some}
use Rattle.std.specs.Option.{option_map, option_and_then}
use Rattle.promise.specs.Exactly.{Exactly}
use Rattle.instant.specs.DateTime.{written, instant_at, Tells}
use Rattle.instant.specs.Reading.{time_in, seconds_in, zone_in, tenths_in, rest_in, instant_in}
use Rattle.instant.proofs.Found.{mapped_found}
use Rattle.instant.proofs.Tenths.{tenths_sound, tenths_complete}
use Rattle.instant.proofs.Times.{local_exactly}
use Rattle.instant.proofs.Zones.{zone_sound, zone_complete}

pub instant_exactly : (text : List ℕ) → Exactly (Tells text) (instant_in text)
unfolding instant_in
instant_exactly text =
    let local = take 19 text in
    let rest = drop 19 text in
    let tenths = tenths_in rest in
    record {
      sound = λ instant e.
          option_and_then_some (λ seconds. rest_in seconds rest) (option_and_then seconds_in (time_in local)) instant e
          (λ seconds of_local of_rest.
          let before = tenths_sound rest in
          let found = mapped_found (instant_at (pos 10 *ℤ seconds +ℤ pos tenths.0)) (zone_in tenths.1) instant of_rest in
          record {
            local = local;
            fraction = before.fraction;
            zone = tenths.1;
            seconds = seconds;
            tenths = tenths.0;
            ahead = found.0;
            parts = sym (take-append-drop 19 text) ∙ ap (λ rest. local ++ rest) before.parts ∙ sym (append_assoc local before.fraction tenths.1);
            of_local = (local_exactly local).sound seconds of_local;
            of_fraction = before.of_fraction;
            of_zone = zone_sound tenths.1 found.0 found.1;
            value = found.2;
          });
      complete = λ instant m.
          let time = m.of_local.time in
          let rest = m.fraction ++ m.zone in
          let of_local = (local_exactly (written time)).complete m.seconds (record { time = time; form = refl; limits = m.of_local.limits; value = m.of_local.value }) in
          ap instant_in (m.parts ∙ ap (λ front. front ++ m.fraction ++ m.zone) m.of_local.form)
          ∙ ap (option_and_then (λ seconds. rest_in seconds rest)) of_local
          ∙ ap (λ (t : ℕ × List ℕ). option_map (instant_at (pos 10 *ℤ m.seconds +ℤ pos t.0)) (zone_in t.1)) (tenths_complete m.of_fraction m.of_zone)
          ∙ ap (option_map (instant_at (pos 10 *ℤ m.seconds +ℤ pos m.tenths))) (zone_complete m.zone m.ahead m.of_zone)
          ∙ ap Some (sym m.value);
    }
