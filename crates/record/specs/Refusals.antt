-- The numbers of the reasons for which a body is refused, and the field that each tells. Assumes nothing.
use Rattle.std.specs.Prelude.{ℕ}
use Rattle.record.specs.declared.refusals.BodyRefusal.{BodyRefusal}
use Rattle.record.specs.declared.refusals.BodyRefusal.TheVariants.{Broken, Field, Lifetime}

abbrev pub refusal_number : BodyRefusal → ℕ
refusal_number (Broken place) = 4
refusal_number (Field number place) = 5
refusal_number Lifetime = 6

abbrev pub told_field : BodyRefusal → ℕ
told_field (Field number place) = number
told_field refusal = 0
