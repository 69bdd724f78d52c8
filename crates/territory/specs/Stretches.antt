-- A stretch over an order: what it holds, and where two of them meet. Assumes nothing.
use Rattle.std.specs.Prelude.{Bool, cond, not, ◌&&◌, Some, None, Option}
use Rattle.territory.specs.declared.stretches.Stretch.{Stretch}

abbrev pub from_to : {B : Type 0} → B → B → Stretch B
from_to first end = record { first = first; end = end }

module _ {B : Type 0} (before : B → B → Bool) where
  -- from the first bound up to, but without, the end bound
  abbrev pub lies_within : B → B → B → Bool
  lies_within first end value = not (before value first) && before value end

  -- the later and the earlier of two values, the one named first where they are the same
  abbrev pub later : B → B → B
  later a b = cond (before a b) b a

  abbrev pub earlier : B → B → B
  earlier a b = cond (before b a) b a

  -- two stretches that meet tell the later first bound
  abbrev pub meeting : B → B → B → B → Option B
  meeting first₁ end₁ first₂ end₂ =
      cond (before (later first₁ first₂) (earlier end₁ end₂)) (Some (later first₁ first₂)) None
