-- What a territory means: the points that it holds, which points are the same, and a common point of two. Assumes nothing.
use Rattle.std.specs.Prelude.{◌≡◌, Bool, true, false, Some, None, Option, ◌≢◌}

pub record Equivalence {V : Type 0} (same : V → V → Bool) : Type 0 where
  pub itself : (a : V) → same a a ≡ true
  pub either_way : (a b : V) → same a b ≡ true → same b a ≡ true
  pub through : (a b c : V) → same a b ≡ true → same b c ≡ true → same a c ≡ true

pub record Lawful {S P : Type 0} (holds : S → P → Bool) (same : P → P → Bool) (common : S → S → Option P) : Type 0 where
  pub equivalence : Equivalence same
  -- same points are held alike
  pub alike : (t : S) (p q : P) → same p q ≡ true → holds t p ≡ holds t q
  -- a common point is held by both
  pub met : (t u : S) (p : P) → common t u ≡ Some p → (holds t p ≡ true) × (holds u p ≡ true)
  -- none only where no point is shared
  pub apart : (t u : S) (p : P) → common t u ≡ None → holds t p ≡ true → holds u p ≢ true

abbrev pub HoldsNothing : {S P : Type 0} → (S → P → Bool) → S → Type 0
HoldsNothing {S} {P} holds t = (p : P) → holds t p ≡ false
