-- A body that does not break is its fields put together, and one that breaks does so where it is told. Assumes nothing.
use Rattle.std.proofs.Common.{◌≡◌, ℕ, zero, suc, ◌+◌, ◌-◌, ◌<◌, ◌≤◌, Bool, true, false, cond, ltb, ◌⊎◌, List, [], ◌∷◌, ◌++◌, map, length, get_or, drop, Some, None, Option, sym, refl, ap, ◌∙◌, subst, inl, inr, ⊎_elim, append_assoc, arith, length-append, length-drop, take-append-drop, drop-drop, drop_at}
use Rattle.std.proofs.lemmas.Grind.{common_steps}
use Rattle.std.proofs.lemmas.Bool.Decides.{nat_tests}
use Rattle.std.proofs.lemmas.List.{drop_all, drop_more}
use Rattle.std.proofs.lemmas.Bool.{ltb-true, ltb-false, cases_Bool, cond-true, cond-false}
use Rattle.std.specs.List.{range_with_len, flat_map}
use Rattle.promise.specs.Exactly.{Exactly}
use Rattle.delivery.specs.Fields.{field_bytes, field_end, field_fits, place_in}
use Rattle.delivery.specs.Opened.{Part}
use Rattle.record.specs.Bodies.{field_start, field_text, broken_at}
use Rattle.record.specs.Laid.{laid, Laid, first_texts, PassesEnd, Breaks, BreaksAt}
use Rattle.record.proofs.Positions.{none_left}
use Rattle.record.proofs.Walks.{start_first, start_next, past_fitting, broken_step, broken_none}

module _ (body : List ℕ) where
  fits_parts : (at : ℕ) → field_fits body at ≡ true → (at < length body) × (field_end body at ≤ length body)
  fits_parts at h = grind (arith, nat_tests)

  length_field : (at : ℕ) → field_fits body at ≡ true → length (field_bytes body at) ≡ get_or body at 0
  length_field at h = grind (arith, nat_tests, common_steps)

  -- a field that fits, and what follows it
  split : (at : ℕ) → field_fits body at ≡ true → drop at body ≡ laid (field_bytes body at) ++ drop (field_end body at) body
  split at h =
      let after = sym (take-append-drop (get_or body at 0) (drop (at + 1) body)) ∙ ap (λ rest. field_bytes body at ++ rest) (drop-drop (get_or body at 0) (at + 1) body) in
      drop_more body at 0 (fits_parts at h).0
      ∙ ap (λ rest. get_or body at 0 ∷ rest) after
      ∙ ap (λ n. n ∷ (field_bytes body at ++ drop (field_end body at) body)) (sym (length_field at h))

  first_byte : (at byte : ℕ) (rest : List ℕ) → drop at body ≡ byte ∷ rest → get_or body at 0 ≡ byte
  first_byte at byte rest e = grind (arith, common_steps)

  still : (at : ℕ) (rest : List ℕ) → drop at body ≡ rest → length body - at ≡ length rest
  still at rest e = grind (arith, common_steps)

  pub record Next (at : ℕ) (field rest : List ℕ) : Type 0 where
    pub fits : field_fits body at ≡ true
    pub end : field_end body at ≡ at + (1 + length field)
    pub after : drop (field_end body at) body ≡ rest

  -- where a field stands, it is the next one
  next : (at : ℕ) (field rest : List ℕ) → drop at body ≡ laid field ++ rest → Next at field rest
  next at field rest e =
      let byte : get_or body at 0 ≡ length field = first_byte at _ _ e in
      let more : length body - at ≡ suc (length (field ++ rest)) = still at _ e in
      let both = length-append field rest in
      let past : field_end body at ≡ at + (1 + length field) = omega arith in
      record {
        fits = grind (arith, nat_tests);
        end = past;
        after = ap (λ n. drop n body) past ∙ sym (drop-drop (1 + length field) at body) ∙ ap (drop (1 + length field)) e ∙ drop_at (laid field) rest (1 + length field) (omega arith);
      }

  no_field : (at : ℕ) → field_fits body at ≡ false → PassesEnd (drop at body)
  no_field at h = grind (arith, nat_tests, common_steps, drop_all, drop_more)

  passes : (at : ℕ) (rest : List ℕ) → drop at body ≡ rest → PassesEnd rest → field_fits body at ≡ false
  passes at rest e ends = grind (arith, nat_tests, common_steps, still, first_byte)

when_none : {A : Type 0} (b : Bool) (x : Option A) (y : A) → cond b x (Some y) ≡ None → (b ≡ true) × (x ≡ None)
when_none b x y h = grind arith

some_left : {A : Type 0} (b : Bool) (y z : A) → cond b (Some y) None ≡ Some z → (b ≡ true) × (z ≡ y)
some_left b y z h = grind arith

module _ (body : Part) where
  texts_from : (i k : ℕ) → broken_at body (field_start body.bytes i) k ≡ None → drop (field_start body.bytes i) body.bytes ≡ flat_map laid (map (field_text body.bytes) (range_with_len i k))
  texts_from i zero e = drop_all _ _ (ltb-false _ _ (none_left _ _ (sym (broken_none body _) ∙ e)))
  texts_from i (suc k) e =
      let at = field_start body.bytes i in
      let here = when_none (field_fits body.bytes at) _ _ (sym (broken_step body at k) ∙ e) in
      let end : field_end body.bytes at ≡ field_start body.bytes (i + 1) = sym (start_next body.bytes i ∙ past_fitting body.bytes at here.0) in
      let rest = texts_from (i + 1) k (ap (λ from. broken_at body from k) (sym end) ∙ here.1) in
      let text = sym (cond-true (field_fits body.bytes at) (field_bytes body.bytes at) [] here.0) in
      split body.bytes at here.0
      ∙ ap (λ from. laid (field_bytes body.bytes at) ++ drop from body.bytes) end
      ∙ ap (λ after. laid (field_bytes body.bytes at) ++ after) rest
      ∙ ap (λ field. laid field ++ flat_map laid (map (field_text body.bytes) (range_with_len (i + 1) k))) text

  pub laid_whole : (count : ℕ) → broken_at body 0 count ≡ None → Laid body.bytes (first_texts body.bytes count)
  laid_whole count e =
      let start = start_first body.bytes in
      ap (λ at. drop at body.bytes) (sym start) ∙ texts_from 0 count (ap (λ at. broken_at body at count) start ∙ e)

  -- a break of what is left, which begins at a place of the body
  abbrev Left : ℕ → ℕ → ℕ → Type 0
  Left at count place = (off : ℕ) × Breaks count (drop at body.bytes) off × (place ≡ place_in body (at + off))

  here : (at count : ℕ) → ((0 < count) × PassesEnd (drop at body.bytes)) ⊎ ((0 ≡ count) × (0 < length (drop at body.bytes))) → Left at count (place_in body at)
  here at count why =
      let z : at ≡ at + 0 = omega arith in
      (0, record { fields = []; rest = drop at body.bytes; parts = refl; front = refl; breaks = why }, ap (place_in body) z)

  later : (at count place : ℕ) → field_fits body.bytes at ≡ true → Left (field_end body.bytes at) count place → Left at (suc count) place
  later at count place fits w =
      let field = field_bytes body.bytes at in
      let b = w.1 in
      let size = length_field body.bytes at fits in
      let all = length-append (laid field) (flat_map laid b.fields) in
      let off : at + (1 + length field + w.0) ≡ field_end body.bytes at + w.0 = omega arith in (
        1 + length field + w.0,
        record {
          fields = field ∷ b.fields;
          rest = b.rest;
          parts = split body.bytes at fits ∙ ap (λ after. laid field ++ after) b.parts ∙ sym (append_assoc (laid field) (flat_map laid b.fields) b.rest);
          front = let f = b.front in omega arith;
          breaks = let why = b.breaks in grind arith;
        },
        w.2 ∙ ap (place_in body) (sym off),
      )

  tells : (at count place : ℕ) → broken_at body at count ≡ Some place → Left at count place
  tells at zero place e =
      let over = some_left (ltb at (length body.bytes)) _ _ (sym (broken_none body at) ∙ e) in
      let inside = ltb-true at (length body.bytes) over.0 in
      let rest = length-drop at body.bytes in
      subst (Left at 0) (sym over.1) (here at 0 (inr (refl, omega arith)))
  tells at (suc k) place e =
      let stepped = sym (broken_step body at k) ∙ e in
      ⊎_elim
      (λ fits. later at k place fits (tells (field_end body.bytes at) k place (sym (cond-true _ _ _ fits) ∙ stepped)))
      (λ none. subst (Left at (suc k)) (let h = sym (cond-false _ _ _ none) ∙ stepped in cc) (here at (suc k) (inl (omega arith, no_field body.bytes at none))))
      (cases_Bool (field_fits body.bytes at))

  told : (at count : ℕ) (fields : List (List ℕ)) (rest : List ℕ) → drop at body.bytes ≡ flat_map laid fields ++ rest → ((length fields < count) × PassesEnd rest) ⊎ ((length fields ≡ count) × (0 < length rest)) → broken_at body at count ≡ Some (place_in body (at + length (flat_map laid fields)))
  told at zero [] rest e why =
      let l = still body.bytes at rest e in
      let over : ltb at (length body.bytes) ≡ true = grind (arith, nat_tests) in
      let z : at ≡ at + 0 = omega arith in
      broken_none body at ∙ cond-true _ _ _ over ∙ ap (λ p. Some (place_in body p)) z
  told at (suc k) [] rest e why = grind (arith, nat_tests, passes, broken_step)
  told at zero (field ∷ fields) rest e why = grind arith
  told at (suc k) (field ∷ fields) rest e why =
      let n = next body.bytes at field (flat_map laid fields ++ rest) (e ∙ append_assoc (laid field) (flat_map laid fields) rest) in
      let all = length-append (laid field) (flat_map laid fields) in
      let off : field_end body.bytes at + length (flat_map laid fields) ≡ at + length (flat_map laid (field ∷ fields)) = omega (arith, n.end) in
      broken_step body at k
      ∙ cond-true _ _ _ n.fits
      ∙ told (field_end body.bytes at) k fields rest n.after (grind arith)
      ∙ ap (λ p. Some (place_in body p)) off

  pub breaks_exactly : (count : ℕ) → Exactly (BreaksAt count body) (broken_at body 0 count)
  breaks_exactly count = record {
    sound = λ place e. let w = tells 0 count place e in let z : 0 + w.0 ≡ w.0 = omega arith in (w.0, w.1, w.2 ∙ ap (place_in body) z);
    complete = λ place w.
        let b = w.1 in
        let z : 0 + length (flat_map laid b.fields) ≡ w.0 = omega (arith, b.front) in
        told 0 count b.fields b.rest b.parts b.breaks ∙ ap Some (ap (place_in body) z ∙ sym w.2);
  }
