-- Why a body is refused, in the words of the rules. Assumes nothing.
use Rattle.std.specs.Prelude.{◌≡◌, ℕ, ◌+◌, ◌<◌, true, List, Option}
use Rattle.promise.specs.Reasons.{FirstThatApplies, ListedBefore}
use Rattle.territory.specs.declared.numberings.Numbering.{Ghosts}
use Rattle.delivery.specs.Fields.{place_in}
use Rattle.delivery.specs.Opened.{Part}
use Rattle.delivery.specs.declared.kinds.Kind.{Kind}
use Rattle.record.specs.Bodies.{field_start}
use Rattle.record.specs.Checking.{no_lifetime}
use Rattle.record.specs.Judging.{faulty}
use Rattle.record.specs.Laid.{first_texts, BreaksAt}
use Rattle.record.specs.Layouts.{field_count}
use Rattle.record.specs.Named.{name_at}
use Rattle.record.specs.Refusals.{refusal_number, told_field}
use Rattle.record.specs.declared.field_names.FieldName.{FieldName}
use Rattle.record.specs.declared.refusals.BodyRefusal.{BodyRefusal}
use Rattle.record.specs.declared.refusals.BodyRefusal.TheVariants.{Broken, Field, Lifetime}

-- the texts of the fields that a body of the kind has
abbrev pub fields_of : Kind → List ℕ → List (List ℕ)
fields_of kind body = first_texts body (field_count kind)

-- whatever says that a field is at fault, and that the body has no lifetime
module _ (AtFault : FieldName → Type 0) (NoLifetime : Type 0) (kind : Kind) (body : Part) where
  -- the field of a number, from 1, whose length byte stands at the place, is at fault
  pub record FieldAtFault (number place : ℕ) : Type 0 where
    pub index : ℕ
    pub below : index < field_count kind
    pub counted : number ≡ index + 1
    pub stands : place ≡ place_in body (field_start body.bytes index)
    pub fault : AtFault (name_at kind index)

  abbrev pub Applies : BodyRefusal → Type 0
  Applies (Broken place) = BreaksAt (field_count kind) body place
  Applies (Field number place) = FieldAtFault number place
  Applies Lifetime = NoLifetime

  -- the reason given is the first of the list that applies, with the first field, and none is given exactly when none applies
  abbrev pub Refused : Option BodyRefusal → Type 0
  Refused refusal = FirstThatApplies Applies (ListedBefore refusal_number told_field) refusal

-- by the tests of the readers
unfoldable pub RefusedRightly : {N P : Type 0} → Ghosts N P → Kind → Part → Option BodyRefusal → Type 0
RefusedRightly m kind body = Refused (λ name. faulty m kind body.bytes name ≡ true) (no_lifetime kind body.bytes ≡ true) kind body
