-- What a check tells of a body that passed. Assumes nothing.
use Rattle.std.proofs.Common.{◌≡◌, ℕ, Bool, false, cond, Some, None, Option, sym, refl, ap, ◌∙◌, arith}
use Rattle.std.proofs.lemmas.Bool.{or_parts}
use Rattle.std.specs.List.{position}
use Rattle.std.specs.Option.{option_map, option_or}
use Rattle.territory.specs.declared.numberings.Numbering.{Ghosts}
use Rattle.text.specs.declared.nguid.Layer.TheVariants as layer
use Rattle.delivery.specs.Opened.{Part}
use Rattle.delivery.specs.declared.kinds.Kind.{Kind}
use Rattle.record.specs.Bodies.{broken_at}
use Rattle.record.specs.Checking.{no_lifetime, fault_told, refusal_of}
use Rattle.record.specs.Judging.{faulty, faulty_text}
use Rattle.record.specs.Laid.{Laid}
use Rattle.record.specs.Layouts.{field_count, layout}
use Rattle.record.specs.Named.{name_at}
use Rattle.record.specs.Passing.{Passes}
use Rattle.record.specs.Rules.{fields_of}
use Rattle.record.specs.declared.field_names.FieldName.TheVariants.{Identifier}
use Rattle.record.specs.declared.refusals.BodyRefusal.TheVariants.{Broken, Lifetime}
use Rattle.record.proofs.Laying.{laid_whole}
use Rattle.record.proofs.NamedTexts.{names_tell}
use Rattle.record.proofs.Positions.{none_passes}

module _ {N P : Type 0} (m : Ghosts N P) (kind : Kind) (body : Part) where
  unfaulty : broken_at body 0 (field_count kind) ≡ None → position (faulty m kind body.bytes) (layout kind) ≡ None → no_lifetime kind body.bytes ≡ false → Passes kind body
  unfolding faulty
  unfaulty whole none lasting = record {
    whole = whole;
    texts = λ j h.
        let sound = or_parts _ _ (none_passes (faulty m kind body.bytes) (Identifier layer.Road) (layout kind) none j h) in
        ap (faulty_text (name_at kind j)) (sym (names_tell kind body.bytes j h)) ∙ sound.0;
    lasting = lasting;
  }

  by_parts : (broken fault : Option ℕ) (late : Bool) → broken_at body 0 (field_count kind) ≡ broken → position (faulty m kind body.bytes) (layout kind) ≡ fault → no_lifetime kind body.bytes ≡ late → option_or (option_map Broken broken) (option_or (option_map (fault_told body) fault) (cond late (Some Lifetime) None)) ≡ None → Passes kind body
  by_parts broken fault late e f g h = grind (arith, unfaulty)

  pub passes : refusal_of m kind body ≡ None → Passes kind body
  unfolding refusal_of
  passes h = by_parts _ _ _ refl refl refl h

  pub accepted_whole : refusal_of m kind body ≡ None → Laid body.bytes (fields_of kind body.bytes)
  accepted_whole h = laid_whole body (field_count kind) (passes h).whole
