-- How a refusal, or none, is shown to be the right one. Assumes nothing.
use Rattle.std.proofs.Common.{◌≡◌, Some, None, Option, subst}
use Rattle.promise.specs.Reasons.{FirstThatApplies}

module _ {R : Type 0} (Applies : R → Type 0) (Before : R → R → Type 0) where
  -- a reason that applies, and none before it does
  pub refused_first : (r : R) → Applies r → ((s : R) → Applies s → Before s r → ⊥) → FirstThatApplies Applies Before (Some r)
  refused_first r here before = record {
    applies = λ q is. let same : r ≡ q = cc in subst Applies same here;
    first = λ q s is there earlier. let same : q ≡ r = cc in before s there (subst (Before s) same earlier);
    none = λ is. cc;
  }

  pub refused_none : ((r : R) → Applies r → ⊥) → FirstThatApplies Applies Before None
  refused_none never = record {
    applies = λ r is. cc;
    first = λ r s is. cc;
    none = λ _. never;
  }

-- a call that refuses rightly by some reasons does so by others that apply to the same
pub first_alike : {R : Type 0} {A B : R → Type 0} {Before : R → R → Type 0} {refusal : Option R} → ((r : R) → A r → B r) → ((r : R) → B r → A r) → FirstThatApplies A Before refusal → FirstThatApplies B Before refusal
first_alike to from f = record {
  applies = λ r h. to r (f.applies r h);
  first = λ r s h b. f.first r s h (from s b);
  none = λ h r b. f.none h r (from r b);
}
