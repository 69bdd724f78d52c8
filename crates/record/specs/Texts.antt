-- How a refusal is printed for a person. Assumes nothing.
use Rattle.std.specs.Prelude.{ℕ, List, ◌++◌, codes, decimal}
use Rattle.record.specs.Refusals.{refusal_number}
use Rattle.record.specs.declared.refusals.BodyRefusal.{BodyRefusal}
use Rattle.record.specs.declared.refusals.BodyRefusal.TheVariants.{Broken, Field, Lifetime}

-- the number of the reason, and what it tells: the place, or the number of the field and its place
abbrev pub refusal_text : BodyRefusal → List ℕ
refusal_text (Broken place) = codes "body refused " ++ (decimal (refusal_number (Broken place)) ++ (codes " " ++ decimal place))
refusal_text (Field number place) =
    codes "body refused " ++ (decimal (refusal_number (Field number place)) ++ (codes " " ++ (decimal number ++ (codes " " ++ decimal place))))
refusal_text Lifetime = codes "body refused " ++ decimal (refusal_number Lifetime)
