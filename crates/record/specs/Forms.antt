-- Why a body is refused, by the forms of its texts and not by the readers' tests. Assumes nothing.
use Rattle.std.specs.Prelude.{◌≡◌, ℕ, true, false, ◌⊎◌, List, [], None, Err, Option}
use Rattle.territory.specs.declared.numberings.Numbering.{Ghosts}
use Rattle.text.specs.FieldText.{FieldText}
use Rattle.text.specs.Nguids.{NguidParts, NguidText}
use Rattle.text.specs.declared.nguid.Layer.TheVariants as layer
use Rattle.instant.specs.DateTime.{Tells}
use Rattle.instant.specs.Instants.{instant_before}
use Rattle.instant.specs.Limits.{earliest, latest, TellsOr}
use Rattle.instant.specs.declared.date_time.Instant.{Instant}
use Rattle.delivery.specs.Opened.{Part}
use Rattle.delivery.specs.declared.kinds.Kind.{Kind}
use Rattle.record.specs.Judging.{side_reading}
use Rattle.record.specs.Layouts.{is_required}
use Rattle.record.specs.Named.{text_of}
use Rattle.record.specs.Rules.{Refused}
use Rattle.record.specs.declared.field_names.FieldName.{FieldName}
use Rattle.record.specs.declared.field_names.FieldName.TheVariants.{Identifier, RoadIdentifier, Text, SideText, Numbering, Place, DateUpdate, Effective, Expire, Retirement}
use Rattle.record.specs.declared.refusals.BodyRefusal.{BodyRefusal}

-- the form of a field's text; numbering texts and places follow their numbering alone
abbrev pub HasForm : FieldName → List ℕ → Type 0
HasForm (Identifier which) text = (parts : NguidParts) × NguidText which text parts
HasForm RoadIdentifier text = (parts : NguidParts) × NguidText layer.Road text parts
HasForm (Text field) text = FieldText field text
HasForm (SideText side field) text = FieldText field text
HasForm (Numbering side which) text = Unit {0}
HasForm Place text = Unit {0}
HasForm DateUpdate text = (instant : Instant) × Tells text instant
HasForm Effective text = (instant : Instant) × TellsOr earliest text instant
HasForm Expire text = (instant : Instant) × TellsOr latest text instant
HasForm Retirement text = (instant : Instant) × Tells text instant

-- missing though required, or without its form
abbrev pub TextAtFault : FieldName → List ℕ → Type 0
TextAtFault name text = ((is_required name ≡ true) × (text ≡ [])) ⊎ (HasForm name text → ⊥)

-- the lifetime does not begin before it ends
pub record NoLifetime (kind : Kind) (body : List ℕ) : Type 0 where
  pub effective : Instant
  pub expire : Instant
  pub begins : TellsOr earliest (text_of kind body Effective) effective
  pub ends : TellsOr latest (text_of kind body Expire) expire
  pub late : instant_before effective expire ≡ false

module _ {N P : Type 0} (m : Ghosts N P) (kind : Kind) (body : List ℕ) where
  -- the reading of the side's texts tells this one, or the text says no place
  abbrev pub NumberingAtFault : FieldName → Type 0
  NumberingAtFault (Numbering side which) = side_reading m kind body side ≡ Err which
  NumberingAtFault Place = m.place (text_of kind body Place) ≡ None
  NumberingAtFault name = ⊥

  abbrev pub AtFault : FieldName → Type 0
  AtFault name = TextAtFault name (text_of kind body name) ⊎ NumberingAtFault name

unfoldable pub RefusedByForm : {N P : Type 0} → Ghosts N P → Kind → Part → Option BodyRefusal → Type 0
RefusedByForm m kind body = Refused (AtFault m kind body.bytes) (NoLifetime kind body.bytes) kind body
