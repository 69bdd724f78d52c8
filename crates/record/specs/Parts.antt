-- What a body says by its fields. Assumes nothing.
use Rattle.std.specs.Prelude.{ℕ, ◌+◌, List, map, Option, Result}
use Rattle.std.specs.Option.{option_and_then}
use Rattle.territory.specs.declared.numberings.Numbering.{Ghosts}
use Rattle.territory.specs.declared.numberings.NumberingText.{NumberingText}
use Rattle.territory.specs.declared.stretches.Stretch.{Stretch}
use Rattle.text.specs.FullNames.{name_elements}
use Rattle.instant.specs.Instants.{lifetime_from}
use Rattle.instant.specs.Limits.{earliest, latest, instant_or}
use Rattle.instant.specs.declared.date_time.Instant.{Instant}
use Rattle.delivery.specs.declared.kinds.Kind.{Kind}
use Rattle.delivery.specs.declared.kinds.Kind.TheVariants.{Road, Point}
use Rattle.record.specs.Bodies.{field_text}
use Rattle.record.specs.Judging.{side_reading}
use Rattle.record.specs.Named.{text_of}
use Rattle.record.specs.declared.field_names.FieldName.TheVariants.{Text, Place, Effective, Expire}
use Rattle.record.specs.declared.field_names.Side.{Side}

-- the eight elements of the street's name
abbrev pub elements_of : Kind → List ℕ → List (List ℕ)
elements_of kind body = map (λ field. text_of kind body (Text field)) name_elements

-- a kind without these fields lasts from the earliest instant to the latest
abbrev pub lifetime_of : Kind → List ℕ → Option (Stretch Instant)
lifetime_of kind body =
    option_and_then (λ effective. option_and_then (λ expire. lifetime_from effective expire) (instant_or latest (text_of kind body Expire)))
    (instant_or earliest (text_of kind body Effective))

module _ {N P : Type 0} (m : Ghosts N P) where
  -- the reading of three texts in a row
  abbrev pub reading_from : List ℕ → ℕ → Result N NumberingText
  reading_from body first = m.reading (field_text body first) (field_text body (first + 1)) (field_text body (first + 2))

  -- the numbering of a road's side
  abbrev pub reading_of : List ℕ → Side → Result N NumberingText
  reading_of body side = side_reading m Road body side

  -- the place of a point
  abbrev pub place_of : List ℕ → Option P
  place_of body = m.place (text_of Point body Place)
