-- Another numbering refuses a passed body for a numbering text or a place alone. Assumes nothing.
use Rattle.std.proofs.Common.{◌≡◌, ℕ, Bool, true, false, cond, List, Some, None, Option, refl, ◌∙◌, ap, arith}
use Rattle.std.specs.List.{position}
use Rattle.std.specs.Option.{option_map, option_or}
use Rattle.std.proofs.lemmas.List.Quantifiers.{position-Some}
use Rattle.territory.specs.declared.numberings.Numbering.{Ghosts}
use Rattle.text.specs.declared.nguid.Layer.TheVariants as layer
use Rattle.delivery.specs.Opened.{Part}
use Rattle.delivery.specs.declared.kinds.Kind.{Kind}
use Rattle.record.specs.Checking.{fault_told, refusal_of}
use Rattle.record.specs.Judging.{faulty, faulty_text, misread}
use Rattle.record.specs.Layouts.{layout}
use Rattle.record.specs.Named.{name_at}
use Rattle.record.specs.Passing.{FollowsNumbering, LeftToNumbering, OfNumbering, Passes}
use Rattle.record.specs.declared.field_names.FieldName.{FieldName}
use Rattle.record.specs.declared.field_names.FieldName.TheVariants.{Identifier}
use Rattle.record.specs.declared.refusals.BodyRefusal.{BodyRefusal}
use Rattle.record.specs.declared.refusals.BodyRefusal.TheVariants.{Broken, Lifetime}
use Rattle.record.proofs.NamedTexts.{names_tell}

module _ {N P : Type 0} (m : Ghosts N P) (kind : Kind) where
  follows : (body : List ℕ) (name : FieldName) → misread m kind body name ≡ true → FollowsNumbering name
  follows body name e = grind arith

  module _ (body : Part) (passed : Passes kind body) where
    at_field : (i : ℕ) → position (faulty m kind body.bytes) (layout kind) ≡ Some i → FollowsNumbering (name_at kind i)
    unfolding faulty
    at_field i f =
        let found = position-Some (faulty m kind body.bytes) (layout kind) i (Identifier layer.Road) f in
        let formed = ap (faulty_text (name_at kind i)) (names_tell kind body.bytes i found.0) ∙ passed.texts i found.0 in
        follows body.bytes (name_at kind i) (rw formed at found.1)

    by_parts : (broken fault : Option ℕ) (late : Bool) → broken ≡ None → position (faulty m kind body.bytes) (layout kind) ≡ fault → late ≡ false → (given : BodyRefusal) → option_or (option_map Broken broken) (option_or (option_map (fault_told body) fault) (cond late (Some Lifetime) None)) ≡ Some given → OfNumbering kind given
    by_parts broken fault late e f g given h = grind (arith, at_field)

    pub left_over : LeftToNumbering kind (refusal_of m kind body)
    unfolding refusal_of
    left_over given h = by_parts _ _ _ passed.whole refl passed.lasting given h
