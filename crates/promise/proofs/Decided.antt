-- A reader that answers exactly a form decides whether a text has it. Assumes nothing.
use Rattle.std.proofs.Common.{◌≡◌, Bool, true, not, is_some, Some, None, Decides, Option, refl}
use Rattle.std.proofs.lemmas.Bool.{false≢true}
use Rattle.promise.specs.Exactly.{Exactly}

pub exactly_decides : {V : Type 0} (Means : V → Type 0) (answer : Option V) → Exactly Means answer → Decides (is_some answer) ((v : V) × Means v)
exactly_decides Means None exact = (λ h. absurd (false≢true h), λ w. let e = exact.complete w.0 w.1 in cc)
exactly_decides Means (Some v) exact = (λ _. (v, exact.sound v refl), λ _. refl)

pub none_decides : {V : Type 0} (answer : Option V) → Decides (not (is_some answer)) (answer ≡ None)
none_decides None = (λ _. refl, λ _. refl)
none_decides (Some v) = (λ h. absurd (false≢true h), λ e. cc)

pub true_decides : (b : Bool) → Decides b (b ≡ true)
true_decides b = (λ h. h, λ h. h)
