-- The numbering of a side, and the place of a point, are read at the fields that have their names. Assumes nothing.
use Rattle.std.proofs.Common.{◌≡◌, ℕ, List, sym, ap, arith}
use Rattle.territory.specs.declared.numberings.Numbering.{Ghosts}
use Rattle.delivery.specs.declared.kinds.Kind.TheVariants.{Road, Point}
use Rattle.record.specs.Bodies.{field_text}
use Rattle.record.specs.Layouts.{numbering_field, place_field}
use Rattle.record.specs.Parts.{place_of, reading_from, reading_of}
use Rattle.record.specs.declared.field_names.Side.{Side}
use Rattle.record.specs.declared.field_names.Side.TheVariants.{Left, Right}
use Rattle.record.proofs.NamedTexts.{each_stands, names_tell}
use Rattle.record.proofs.NumberingTexts.{side_read}

module _ {N P : Type 0} (m : Ghosts N P) (body : List ℕ) where
  pub reading_named : (side : Side) → reading_from m body (numbering_field side) ≡ reading_of m body side
  reading_named Left = side_read m body Road Left 12 (each_stands Road 12 (omega arith))
  reading_named Right = side_read m body Road Right 18 (each_stands Road 18 (omega arith))

  pub place_named : m.place (field_text body place_field) ≡ place_of m body
  place_named = ap m.place (sym (names_tell Point body place_field (omega arith)))
