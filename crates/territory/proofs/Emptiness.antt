-- A territory that shares nothing with itself holds nothing. Assumes nothing.
use Rattle.std.proofs.Common.{◌≡◌, Bool, not, is_some, Some, None, Decides, Option, sym, refl, ◌∙◌, ⊎_elim}
use Rattle.std.proofs.lemmas.Bool.{true≢false, false≢true, cases_Bool}
use Rattle.territory.specs.Meaning.{Lawful, HoldsNothing}

module _ {S P : Type 0} {holds : S → P → Bool} {same : P → P → Bool} {common : S → S → Option P} (l : Lawful holds same common) where
  at_answer : (t : S) (answer : Option P) → common t t ≡ answer → Decides (not (is_some answer)) (HoldsNothing holds t)
  at_answer t None e = (λ _ p. ⊎_elim (λ h. absurd (l.apart t t p e h h)) (λ h. h) (cases_Bool (holds t p)), λ _. refl)
  at_answer t (Some p) e = (λ h. absurd (false≢true h), λ none. absurd (true≢false (sym (l.met t t p e).0 ∙ none p)))

  pub shares_nothing : (t : S) → Decides (not (is_some (common t t))) (HoldsNothing holds t)
  shares_nothing t = at_answer t (common t t) refl
