-- What a search over the numbers below a bound finds is the first that passes. Assumes nothing.
use Rattle.std.proofs.Common.{◌≡◌, ℕ, ◌<◌, ◌≤◌, Bool, true, false, Some, None, Option, sym, refl, ap, ◌∙◌, ⊎_elim, arith}
use Rattle.std.proofs.lemmas.Bool.{true≢false, cases_order}
use Rattle.std.specs.Option.{MatchOption}
use Rattle.promise.specs.First.{first_below}
use Rattle.promise.proofs.Firsts.{first_found, none_found}

module _ (test : ℕ → Bool) (bound : ℕ) where
  -- what a search tells: one that passes with none before it, or that none passes
  abbrev pub IsFirst : Option ℕ → Type 0
  IsFirst answer = MatchOption answer ((k : ℕ) → 0 ≤ k → k < bound → test k ≡ false) (λ i. (0 ≤ i) × (i < bound) × (test i ≡ true) × ((k : ℕ) → 0 ≤ k → k < i → test k ≡ false))

  by_first : (answer first : Option ℕ) → first_below test bound ≡ first → IsFirst answer → answer ≡ first
  by_first None None e none = refl
  by_first None (Some at) e none = let f = first_found test bound at e in absurd (true≢false (sym f.passes ∙ none at (omega arith) (omega (arith, f.below))))
  by_first (Some i) None e found = absurd (true≢false (sym found.2 ∙ none_found test bound e i found.1))
  by_first (Some i) (Some at) e found =
      let f = first_found test bound at e in
      ⊎_elim
      (ap Some)
      (⊎_elim
      (λ before. absurd (true≢false (sym found.2 ∙ f.none_before i (omega arith) before)))
      (λ after. absurd (true≢false (sym f.passes ∙ found.3 at (omega arith) after))))
      (cases_order i at)

  pub found_first : (answer : Option ℕ) → IsFirst answer → answer ≡ first_below test bound
  found_first answer found = by_first answer _ refl found
