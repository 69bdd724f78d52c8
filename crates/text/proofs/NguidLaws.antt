-- Reading NGUIDs answers exactly their form.
use Rattle.std.proofs.Common.{◌≡◌, ℕ, ◌+◌, ◌<◌, Bool, true, eqb, leb, List, ◌++◌, length, get_or, take, drop, Some, sym, refl, ap, take-append-drop, ◌∙◌, subst, append_assoc, arith}
use Rattle.std.specs.List.{All, position, position_or_len}
use Rattle.std.specs.Option.{option_and_then}
use Rattle.std.specs.Str.{bytes_eq}
use Rattle.std.proofs.Math.Seq.{drop-append-add, drop-append_seam, get_or-append_seam, take-append_seam}
use Rattle.std.proofs.lemmas.List.{drop_more, get_or_append_left, length-append}
use Rattle.std.proofs.lemmas.List.Quantifiers.{position-Some}
use Rattle.std.proofs.lemmas.List.Sums.{position_or_len_is}
use Rattle.std.proofs.lemmas.Bool.{and_from, and_parts, eqb-true, le-leb, leb-true, lt-ltb, ltb-true, ne_eqb}
use Rattle.std.proofs.lemmas.Option.{cond_some}
use Rattle.std.proofs.lemmas.Slice.Eq.{bytes_eq-Decides}
use Rattle.promise.specs.Exactly.{Exactly}
use Rattle.text.proofs.ByteLaws.{agency_decides, local_decides}
use Rattle.text.proofs.Inversions.{and_then_apart, cond_apart, mapped_apart}
use Rattle.text.specs.Bytes.{IsLocalByte}
use Rattle.text.specs.Nguids.{NguidParts, NguidText, after, colon, colon_split, has_form, if_formed, layer_text, nguid_front, nguid_text, read_nguid}
use Rattle.text.specs.Widths.{nguid_width}
use Rattle.text.specs.declared.nguid.Layer.{Layer}

after_sound : (front text rest : List ℕ) → after front text ≡ Some rest → text ≡ front ++ rest
unfolding after
after_sound front text rest e =
    let told = cond_some (bytes_eq (take (length front) text) front) (drop (length front) text) rest e in
    let same : take (length front) text ≡ front = (bytes_eq-Decides _ _).0 told.0 in
    let whole = take-append-drop (length front) text in cc

after_complete : (front rest : List ℕ) → after front (front ++ rest) ≡ Some rest
unfolding after
after_complete front rest = rw (take-append_seam, (bytes_eq-Decides front front).1 refl, drop-append_seam) refl

split_sound : (text : List ℕ) (parts : NguidParts) → colon_split text ≡ Some parts → text ≡ parts.local ++ (colon ++ parts.agency)
unfolding colon_split
split_sound text parts e =
    let found = mapped_apart _ _ parts e in
    let place = found.0 in
    let told = position-Some _ text place 0 found.1 in
    let here = drop_more text place 0 told.0 in
    let is : get_or text place 0 ≡ 58 = eqb-true _ _ told.1 in
    let whole : text ≡ take place text ++ (colon ++ drop (place + 1) text) =
    sym (take-append-drop place text) ∙ ap (λ rest. take place text ++ rest) (rw is at here) in
    whole ∙ ap (λ p. p.local ++ (colon ++ p.agency)) found.2

position_at : (test : ℕ → Bool) (text : List ℕ) (place : ℕ) → position_or_len test text ≡ place → place < length text
    → position test text ≡ Some place
position_at test text place is within = rw (is, lt-ltb place (length text) within) refl

split_complete : (local agency : List ℕ) → All IsLocalByte local
    → colon_split (local ++ (colon ++ agency)) ≡ Some (record { local = local; agency = agency })
unfolding colon_split
split_complete local agency allowed =
    let text = local ++ (colon ++ agency) in
    let within : length local < length text = omega (arith, length-append local (colon ++ agency)) in
    let first : position_or_len (λ byte. eqb byte 58) text ≡ length local =
    position_or_len_is _ text (length local) 0 (omega arith)
    (λ k h. rw get_or_append_left (ne_eqb _ 58 (allowed k 0 h).2)) (λ _. rw get_or-append_seam refl) in
    rw (position_at _ text (length local) first within, take-append_seam, drop-append-add) refl

joined : (layer : Layer) (text rest₁ rest₂ rest₃ : List ℕ) (parts : NguidParts) → text ≡ nguid_front ++ rest₁
    → rest₁ ≡ layer_text layer ++ rest₂ → rest₂ ≡ colon ++ rest₃ → rest₃ ≡ parts.local ++ (colon ++ parts.agency)
    → text ≡ nguid_text layer parts
joined layer text rest₁ rest₂ rest₃ parts a b c d = simp append_assoc (a ∙ rw (b, c, d) refl)

sound : (layer : Layer) (text : List ℕ) (parts : NguidParts) → read_nguid layer text ≡ Some parts → NguidText layer text parts
unfolding read_nguid
sound layer text parts e =
    let short = cond_apart (leb (length text) nguid_width) _ parts e in
    let formed = and_then_apart if_formed _ parts short.1 in
    let split = and_then_apart colon_split _ formed.0 formed.1 in
    let third = and_then_apart (after colon) _ split.0 split.1 in
    let second = and_then_apart (after (layer_text layer)) (after nguid_front text) third.0 third.1 in
    let made = cond_some (has_form formed.0) formed.0 parts formed.2 in
    let tests = and_parts _ _ (subst (λ p. has_form p ≡ true) made.1 made.0) in
    record {
      whole =
          joined layer text _ _ _ parts (after_sound _ _ _ second.1) (after_sound _ _ _ second.2) (after_sound _ _ _ third.2)
          (split_sound _ _ split.2 ∙ ap (λ p. p.local ++ (colon ++ p.agency)) made.1);
      within = leb-true _ _ short.0;
      local_some = ltb-true _ _ (and_parts _ _ tests.0).0;
      agency_some = ltb-true _ _ (and_parts _ _ tests.0).1;
      local_bytes = (local_decides parts.local).0 (and_parts _ _ tests.1).0;
      agency_bytes = (agency_decides parts.agency).0 (and_parts _ _ tests.1).1;
    }

complete : (layer : Layer) (text : List ℕ) (parts : NguidParts) → NguidText layer text parts → read_nguid layer text ≡ Some parts
unfolding read_nguid
complete layer text parts form =
    let whole = simp append_assoc at form.whole in
    let tests : has_form parts ≡ true =
    and_from _ _
    (and_from _ _ (lt-ltb _ _ form.local_some) (lt-ltb _ _ form.agency_some))
    (and_from _ _ ((local_decides parts.local).1 form.local_bytes) ((agency_decides parts.agency).1 form.agency_bytes)) in
    let steps : option_and_then colon_split (option_and_then (after colon) (option_and_then (after (layer_text layer)) (after nguid_front text))) ≡ Some parts =
    rw (whole, after_complete, after_complete, after_complete) (split_complete parts.local parts.agency form.local_bytes) in
    rw (le-leb (length text) nguid_width form.within, steps, tests) refl

pub nguid_exactly : (layer : Layer) (text : List ℕ) → Exactly (NguidText layer text) (read_nguid layer text)
nguid_exactly layer text = record { sound = sound layer text; complete = complete layer text }
