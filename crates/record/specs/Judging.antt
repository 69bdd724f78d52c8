-- When a field of a body is at fault. Assumes nothing.
use Rattle.std.specs.Prelude.{ℕ, Bool, true, false, not, ◌&&◌, ◌||◌, List, length, is_some, Ok, Err, Result, ◌==◌}
use Rattle.territory.specs.declared.numberings.Numbering.{Ghosts}
use Rattle.territory.specs.declared.numberings.NumberingText.{NumberingText}
use Rattle.territory.specs.declared.numberings.NumberingText.TheVariants.{First, Second, Third}
use Rattle.text.specs.FieldText.{is_field_text}
use Rattle.text.specs.Nguids.{read_nguid}
use Rattle.text.specs.declared.nguid.Layer.TheVariants as layer
use Rattle.instant.specs.Limits.{earliest, latest, instant_or}
use Rattle.instant.specs.Reading.{instant_in}
use Rattle.delivery.specs.declared.kinds.Kind.{Kind}
use Rattle.record.specs.Layouts.{is_required}
use Rattle.record.specs.Named.{text_of}
use Rattle.record.specs.declared.field_names.FieldName.{FieldName}
use Rattle.record.specs.declared.field_names.FieldName.TheVariants.{Identifier, RoadIdentifier, Text, SideText, Numbering, Place, DateUpdate, Effective, Expire, Retirement}
use Rattle.record.specs.declared.field_names.Side.{Side}

-- the form of a text, where no numbering has a say in it
abbrev pub has_form : FieldName → List ℕ → Bool
has_form (Identifier which) text = is_some (read_nguid which text)
has_form RoadIdentifier text = is_some (read_nguid layer.Road text)
has_form (Text field) text = is_field_text field text
has_form (SideText side field) text = is_field_text field text
has_form (Numbering side which) text = true
has_form Place text = true
has_form DateUpdate text = is_some (instant_in text)
has_form Effective text = is_some (instant_or earliest text)
has_form Expire text = is_some (instant_or latest text)
has_form Retirement text = is_some (instant_in text)

-- missing though required, or without its form
abbrev pub faulty_text : FieldName → List ℕ → Bool
faulty_text name text = (is_required name && length text == 0) || not (has_form name text)

-- how many texts of a numbering stand before it
abbrev pub ordinal : NumberingText → ℕ
ordinal First = 0
ordinal Second = 1
ordinal Third = 2

-- a reading tells the text to be at fault
abbrev pub blames : {N : Type 0} → Result N NumberingText → NumberingText → Bool
blames (Ok numbering) which = false
blames (Err First) First = true
blames (Err Second) Second = true
blames (Err Third) Third = true
blames (Err told) which = false

module _ {N P : Type 0} (m : Ghosts N P) (kind : Kind) (body : List ℕ) where
  -- the reading of a side's three texts
  abbrev pub side_reading : Side → Result N NumberingText
  side_reading side =
      m.reading (text_of kind body (Numbering side First)) (text_of kind body (Numbering side Second)) (text_of kind body (Numbering side Third))

  -- what the numbering finds at fault
  abbrev pub misread : FieldName → Bool
  misread (Numbering side which) = blames (side_reading side) which
  misread Place = not (is_some (m.place (text_of kind body Place)))
  misread name = false

  -- by its text, or by the numbering
  unfoldable pub faulty : FieldName → Bool
  faulty name = faulty_text name (text_of kind body name) || misread name
