-- The first number that passes a test: a search's steps, and what the answer tells. Assumes nothing.
use Rattle.std.proofs.Common.{◌≡◌, ℕ, zero, suc, ◌+◌, ◌-◌, ◌<◌, ◌≤◌, Bool, true, false, cond, ◌||◌, is_some, Some, None, Decides, Option, sym, refl, ap, ◌∙◌, ⊎_elim, arith}
use Rattle.std.proofs.lemmas.Bool.{true≢false, false≢true, cases_Bool, cases_order, cond-true, cond-false, or_cases, or_left, or_right}
use Rattle.std.proofs.lemmas.Bool.Decides.{same_from_decides}
use Rattle.promise.specs.First.{first_from, first_below, any_below}

module _ (test : ℕ → Bool) where
  at_step : (i k : ℕ) → first_from test i (suc k) ≡ cond (test i) (Some i) (first_from test (i + 1) k)
  unfolding first_from
  at_step i k = refl

  left : (i n : ℕ) → i < n → n - i ≡ suc (n - (i + 1))
  left i n h = omega arith

  -- a loop that counts i up to n: it stops at one that passes, goes on past one that does not, and ends with none
  pub first_stops : (i n : ℕ) → i < n → test i ≡ true → first_from test i (n - i) ≡ Some i
  first_stops i n h e = ap (first_from test i) (left i n h) ∙ at_step i (n - (i + 1)) ∙ cond-true (test i) _ _ e

  pub first_goes : (i n : ℕ) → i < n → test i ≡ false → first_from test i (n - i) ≡ first_from test (i + 1) (n - (i + 1))
  first_goes i n h e = ap (first_from test i) (left i n h) ∙ at_step i (n - (i + 1)) ∙ cond-false (test i) _ _ e

  pub first_ends : (i n : ℕ) → n ≤ i → first_from test i (n - i) ≡ None
  unfolding first_from
  first_ends i n h = let e : n - i ≡ 0 = omega arith in ap (first_from test i) e

  -- what is told lies in the row, passes, and none before it does
  pub record Found (i k at : ℕ) : Type 0 where
    pub from : i ≤ at
    pub below : at < i + k
    pub passes : test at ≡ true
    pub none_before : (j : ℕ) → i ≤ j → j < at → test j ≡ false

  found_at : (i k at : ℕ) → first_from test i k ≡ Some at → Found i k at
  unfolding first_from
  found_at i zero at e = cc
  found_at i (suc k) at e =
      ⊎_elim
      (λ yes'. let same : i ≡ at = let h = sym (cond-true (test i) (Some i) (first_from test (i + 1) k) yes') ∙ e in cc in
      record { from = omega arith; below = omega arith; passes = ap test (sym same) ∙ yes'; none_before = λ j a b. absurd (omega arith) })
      (λ no'. let rest = found_at (i + 1) k at (sym (cond-false (test i) (Some i) (first_from test (i + 1) k) no') ∙ e) in
      record {
        from = omega (arith, rest.from);
        below = omega (arith, rest.below);
        passes = rest.passes;
        none_before = λ j a b. ⊎_elim (λ same. ap test (sym same) ∙ no') (⊎_elim (λ after. rest.none_before j (omega arith) b) (λ before. absurd (omega arith))) (cases_order i j);
      })
      (cases_Bool (test i))

  none_at : (i k : ℕ) → first_from test i k ≡ None → (j : ℕ) → i ≤ j → j < i + k → test j ≡ false
  unfolding first_from
  none_at i zero e j a b = absurd (omega arith)
  none_at i (suc k) e j a b =
      ⊎_elim
      (λ yes'. absurd (let h = sym (cond-true (test i) (Some i) (first_from test (i + 1) k) yes') ∙ e in let z : true ≡ false = cc in true≢false z))
      (λ no'. ⊎_elim
      (λ same. ap test (sym same) ∙ no')
      (⊎_elim (λ after. none_at (i + 1) k (sym (cond-false (test i) (Some i) (first_from test (i + 1) k) no') ∙ e) j (omega arith) (omega arith)) (λ before. absurd (omega arith)))
      (cases_order i j))
      (cases_Bool (test i))

  pub first_found : (n at : ℕ) → first_below test n ≡ Some at → Found 0 n at
  first_found n at e = found_at 0 n at e

  pub none_found : (n : ℕ) → first_below test n ≡ None → (j : ℕ) → j < n → test j ≡ false
  none_found n e j h = none_at 0 n e j (omega arith) (omega arith)

  -- some number below n passes
  by_answer : (n : ℕ) (answer : Option ℕ) → first_below test n ≡ answer → Decides (is_some answer) ((j : ℕ) × (j < n) × (test j ≡ true))
  by_answer n None e = (λ h. absurd (false≢true h), λ w. absurd (true≢false (sym w.2 ∙ none_found n e w.0 w.1)))
  by_answer n (Some at) e = let f = first_found n at e in (λ _. (at, omega (arith, f.below), f.passes), λ _. refl)

  pub any_decides : (n : ℕ) → Decides (any_below test n) ((j : ℕ) × (j < n) × (test j ≡ true))
  any_decides n = by_answer n (first_below test n) refl

  pub any_none : any_below test 0 ≡ false
  unfolding first_from
  any_none = refl

  pub any_more : (n : ℕ) → any_below test (n + 1) ≡ (test n || any_below test n)
  any_more n =
      let some : Decides (any_below test (n + 1)) ((test n || any_below test n) ≡ true) = (
        λ h. let w = (any_decides (n + 1)).0 h in
            ⊎_elim
            (λ last. or_left _ _ (ap test (sym last) ∙ w.2))
            (⊎_elim (λ below. or_right _ _ ((any_decides n).1 (w.0, below, w.2))) (λ above. absurd (omega (arith, w.1))))
            (cases_order w.0 n),
        λ h. ⊎_elim
            (λ here. (any_decides (n + 1)).1 (n, omega arith, here))
            (λ rest. let w = (any_decides n).0 rest in (any_decides (n + 1)).1 (w.0, omega (arith, w.1), w.2))
            (or_cases _ _ h),
      ) in
      same_from_decides _ _ some (λ h. h, λ h. h)
