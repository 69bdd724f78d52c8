-- What a body is that passed the checks of its kind, and what another numbering may still refuse it for. Assumes nothing.
use Rattle.std.specs.Prelude.{◌≡◌, ℕ, ◌+◌, ◌<◌, false, Some, None, Option, Result}
use Rattle.std.specs.Result.{result_map_both}
use Rattle.territory.specs.declared.numberings.Numbering.{Ghosts}
use Rattle.delivery.specs.Opened.{Part, unless_refused}
use Rattle.delivery.specs.declared.kinds.Kind.{Kind}
use Rattle.record.specs.Bodies.{field_text, broken_at}
use Rattle.record.specs.Checking.{no_lifetime, refusal_of}
use Rattle.record.specs.Judging.{faulty_text}
use Rattle.record.specs.Layouts.{field_count}
use Rattle.record.specs.Named.{name_at}
use Rattle.record.specs.declared.field_names.FieldName.{FieldName}
use Rattle.record.specs.declared.field_names.FieldName.TheVariants.{Numbering, Place}
use Rattle.record.specs.declared.refusals.BodyRefusal.{BodyRefusal}
use Rattle.record.specs.declared.refusals.BodyRefusal.TheVariants.{Field}

-- an answer by the part of the delivery that it accepts
abbrev pub accepted_part : {C : Type 0} → (C → Part) → Result C BodyRefusal → Result Part BodyRefusal
accepted_part part answer = result_map_both part (λ refusal. refusal) answer

abbrev pub passing : {N P : Type 0} → Ghosts N P → Kind → Part → Result Part BodyRefusal
passing m kind body = unless_refused body (refusal_of m kind body)

-- what holds of a passed body under every numbering: only a numbering text or a place can be at fault
pub record Passes (kind : Kind) (body : Part) : Type 0 where
  pub whole : broken_at body 0 (field_count kind) ≡ None
  pub texts : (index : ℕ) → index < field_count kind → faulty_text (name_at kind index) (field_text body.bytes index) ≡ false
  pub lasting : no_lifetime kind body.bytes ≡ false

-- a numbering text or a place
abbrev pub FollowsNumbering : FieldName → Type 0
FollowsNumbering (Numbering side which) = Unit {0}
FollowsNumbering Place = Unit {0}
FollowsNumbering name = ⊥

-- a field at fault that follows the numbering
abbrev pub OfNumbering : Kind → BodyRefusal → Type 0
OfNumbering kind (Field number place) = (index : ℕ) × (number ≡ index + 1) × FollowsNumbering (name_at kind index)
OfNumbering kind refusal = ⊥

-- no other reason
abbrev pub LeftToNumbering : Kind → Option BodyRefusal → Type 0
LeftToNumbering kind refusal = (given : BodyRefusal) → refusal ≡ Some given → OfNumbering kind given
