-- The steps of a walk over the fields of a body. Assumes nothing.
use Rattle.std.proofs.Common.{◌≡◌, ℕ, zero, suc, ◌+◌, ◌-◌, ◌<◌, ◌≤◌, Bool, true, false, cond, List, Some, Ok, Err, Result, sym, refl, ap, ◌∙◌, arith}
use Rattle.std.proofs.lemmas.Bool.{cond-true, cond-false}
use Rattle.delivery.specs.Fields.{field_end, field_fits, field_from, left_over, past_field, place_in}
use Rattle.delivery.specs.Opened.{Part}
use Rattle.record.specs.Bodies.{field_of, field_start, broken_at}

pub start_first : (body : List ℕ) → field_start body 0 ≡ 0
unfolding field_start
start_first body = refl

pub start_next : (body : List ℕ) (i : ℕ) → field_start body (i + 1) ≡ past_field body (field_start body i)
unfolding field_start
start_next body i = let e : i + 1 ≡ suc i = omega arith in ap (field_start body) e

-- the reader's next turn
pub start_again : (before after : Part) (at i : ℕ) → after ≡ before → at ≡ field_start before.bytes i → past_field after.bytes at ≡ field_start before.bytes (i + 1)
start_again before after at i same e =
    ap (λ p. past_field p.bytes at) same ∙ ap (past_field before.bytes) e ∙ sym (start_next before.bytes i)

pub past_fitting : (body : List ℕ) (at : ℕ) → field_fits body at ≡ true → past_field body at ≡ field_end body at
past_fitting body at h = cond-true (field_fits body at) _ _ h

-- no walk passes a field that does not fit
stuck : (body : List ℕ) (i k : ℕ) → field_fits body (field_start body i) ≡ false → field_start body (i + k) ≡ field_start body i
stuck body i zero h = let e : i + 0 ≡ i = omega arith in ap (field_start body) e
stuck body i (suc k) h =
    let e : i + suc k ≡ i + k + 1 = omega arith in
    ap (field_start body) e ∙ start_next body (i + k) ∙ ap (past_field body) (stuck body i k h) ∙ cond-false (field_fits body (field_start body i)) _ _ h

-- what was handed out tells whether the field fits
when_ok : {A E : Type 0} (fits : Bool) (x y : A) (e : E) → ◌≡◌ {A = Result A E} (Ok y) (cond fits (Ok x) (Err e)) → fits ≡ true
when_ok fits x y e h = grind arith

when_err : {A E : Type 0} (fits : Bool) (x : A) (e told : E) → ◌≡◌ {A = Result A E} (Err told) (cond fits (Ok x) (Err e)) → (fits ≡ false) × (told ≡ e)
when_err fits x e told h = grind arith

module _ (body : Part) where
  fits : (at : ℕ) (part : Part) → ◌≡◌ {A = Result Part ℕ} (Ok part) (field_from body at) → field_fits body.bytes at ≡ true
  fits at part h = when_ok (field_fits body.bytes at) _ _ _ h

  held_back : (at place : ℕ) → ◌≡◌ {A = Result Part ℕ} (Err place) (field_from body at) → (field_fits body.bytes at ≡ false) × (place ≡ place_in body at)
  held_back at place h = when_err (field_fits body.bytes at) _ _ _ h

  -- the field at which a walk stops is as far as it gets
  pub stopped : (at i n place : ℕ) → at ≡ field_start body.bytes i → i ≤ n → ◌≡◌ {A = Result Part ℕ} (Err place) (field_from body at) → ◌≡◌ {A = Result Part ℕ} (Err place) (field_of body n)
  stopped at i n place here past told =
      let n' : n ≡ i + (n - i) = omega arith in
      let there = ap (field_start body.bytes) n' ∙ stuck body.bytes i (n - i) (ap (field_fits body.bytes) (sym here) ∙ (held_back at place told).0) in
      told ∙ ap (field_from body) (here ∙ sym there)

  pub broken_step : (at more : ℕ) → broken_at body at (suc more) ≡ cond (field_fits body.bytes at) (broken_at body (field_end body.bytes at) more) (Some (place_in body at))
  unfolding broken_at
  broken_step at more = refl

  pub broken_none : (at : ℕ) → broken_at body at 0 ≡ left_over body at
  unfolding broken_at
  broken_none at = refl

  -- a walk that has passed i of n fields, and stands at a place
  module _ (at i n : ℕ) (walked : broken_at body 0 n ≡ broken_at body at (n - i)) where
    next : i < n → broken_at body 0 n ≡ cond (field_fits body.bytes at) (broken_at body (field_end body.bytes at) (n - (i + 1))) (Some (place_in body at))
    next h = let left : n - i ≡ suc (n - (i + 1)) = omega arith in walked ∙ ap (broken_at body at) left ∙ broken_step at (n - (i + 1))

    pub breaks : (place : ℕ) → i < n → ◌≡◌ {A = Result Part ℕ} (Err place) (field_from body at) → Some place ≡ broken_at body 0 n
    breaks place h told =
        let back = held_back at place told in
        ap (λ p. Some p) back.1 ∙ sym (next h ∙ cond-false (field_fits body.bytes at) _ _ back.0)

    pub passes : (part : Part) (past : ℕ) → i < n → ◌≡◌ {A = Result Part ℕ} (Ok part) (field_from body at) → past ≡ past_field body.bytes at → broken_at body 0 n ≡ broken_at body past (n - (i + 1))
    passes part past h told after =
        let inside = fits at part told in
        let end = after ∙ past_fitting body.bytes at inside in
        next h ∙ cond-true (field_fits body.bytes at) _ _ inside ∙ ap (λ from. broken_at body from (n - (i + 1))) (sym end)

    pub ends : n ≤ i → left_over body at ≡ broken_at body 0 n
    ends h = let none : n - i ≡ 0 = omega arith in sym (walked ∙ ap (broken_at body at) none ∙ broken_none at)
