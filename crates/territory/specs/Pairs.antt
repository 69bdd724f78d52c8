-- What a pair tells where it meets another. Assumes nothing.
use Rattle.std.specs.Prelude.{Some, None, Option}

-- both parts' points, where both are told
abbrev pub both_told : {P Q : Type 0} → Option P → Option Q → Option (P × Q)
both_told None q = None
both_told (Some p) None = None
both_told (Some p) (Some q) = Some (p, q)
