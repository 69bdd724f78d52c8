-- A reader answers exactly the form: what it answers is meant, and what is meant it answers. Assumes nothing.
use Rattle.std.specs.Prelude.{◌≡◌, Some, Option}

pub record Exactly {V : Type 0} (Means : V → Type 0) (answer : Option V) : Type 0 where
  pub sound : (v : V) → answer ≡ Some v → Means v
  pub complete : (v : V) → Means v → answer ≡ Some v
