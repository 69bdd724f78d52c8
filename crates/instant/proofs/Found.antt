-- Where a mapped answer was found, there was an answer to map.
use Rattle.std.proofs.Common.{◌≡◌, Some, None, Option, refl}
use Rattle.std.proofs.lemmas.Option.{none-some}
use Rattle.std.specs.Option.{option_map}

pub mapped_found : {U V : Type 0} (f : U → V) (o : Option U) (v : V) → option_map f o ≡ Some v → (u : U) × (o ≡ Some u) × (v ≡ f u)
mapped_found f None v e = absurd (none-some v e)
mapped_found f (Some u) v e = (u, refl, cc)
