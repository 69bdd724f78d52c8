-- What an answer says of the steps that led to it, and the steps of `?`.
use Rattle.std.proofs.Common.{◌≡◌, Bool, true, false, cond, Some, None, Option, refl, ap}
use Rattle.std.specs.Option.{option_and_then, option_map}
use Rattle.std.proofs.lemmas.Option.{option_and_then_some}

pub none_some : {A C : Type 0} (v : A) → None ≡ Some v → C
none_some v e = cc

pub cond_apart : {A : Type 0} (b : Bool) (o : Option A) (v : A) → cond b o None ≡ Some v → (b ≡ true) × (o ≡ Some v)
cond_apart true o v e = (refl, e)
cond_apart false o v e = none_some v e

pub mapped_apart : {A B : Type 0} (f : A → B) (o : Option A) (v : B) → option_map f o ≡ Some v → (a : A) × (o ≡ Some a) × (f a ≡ v)
mapped_apart f None v e = none_some v e
mapped_apart f (Some a) v e = (a, refl, cc)

pub and_then_apart : {A B : Type 0} (f : A → Option B) (o : Option A) (v : B) → option_and_then f o ≡ Some v → (a : A) × (o ≡ Some a) × (f a ≡ Some v)
and_then_apart f o v e = option_and_then_some f o v e (λ a is told. (a, is, told))

-- a step that goes on, and one that stops
pub goes : {A B : Type 0} {o : Option A} {a : A} (f : A → Option B) → Some a ≡ o → f a ≡ option_and_then f o
goes f e = ap (option_and_then f) e

pub stops : {A B : Type 0} {o : Option A} (f : A → Option B) → None ≡ o → None ≡ option_and_then f o
stops f e = ap (option_and_then f) e
