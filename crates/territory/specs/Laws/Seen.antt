-- A kind of territory that is seen through one that is lawful is lawful. Assumes nothing.
use Rattle.std.specs.Prelude.{Bool, Option}
use Rattle.territory.specs.Meaning.{Lawful}

pub lawful_through : {R S P : Type 0} {holds : S → P → Bool} {same : P → P → Bool} {common : S → S → Option P} (seen : R → S) → Lawful holds same common → Lawful (λ r. holds (seen r)) same (λ r s. common (seen r) (seen s))
lawful_through seen l = record {
  equivalence = l.equivalence;
  alike = λ r. l.alike (seen r);
  met = λ r s. l.met (seen r) (seen s);
  apart = λ r s. l.apart (seen r) (seen s);
}
