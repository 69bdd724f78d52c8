-- The fields of each kind of body, in their order, and which of them a body has to have. Assumes nothing.
use Rattle.std.specs.Prelude.{◌≡◌, ℕ, Bool, true, false, List, [], ◌∷◌, ◌++◌, length, slice_index_or}
use Rattle.delivery.specs.declared.kinds.Kind.{Kind}
use Rattle.delivery.specs.declared.kinds.Kind.TheVariants.{Road, Alias, Point, RoadRetirement, PointRetirement}
use Rattle.territory.specs.declared.numberings.NumberingText.TheVariants.{First, Second, Third}
use Rattle.text.specs.declared.field_text.TextField.{TextField}
use Rattle.text.specs.declared.field_text.TextField.TheVariants.{PreModifier, PreDirectional, PreType, PreSeparator, StreetName, PostType, PostDirectional, PostModifier, County, Municipality, NumberPrefix, NumberSuffix, Unit}
use Rattle.text.specs.declared.nguid.Layer.TheVariants as layer
use Rattle.record.specs.declared.field_names.FieldName.{FieldName}
use Rattle.record.specs.declared.field_names.FieldName.TheVariants.{Identifier, RoadIdentifier, Text, SideText, Numbering, Place, DateUpdate, Effective, Expire, Retirement}
use Rattle.record.specs.declared.field_names.Side.{Side}
use Rattle.record.specs.declared.field_names.Side.TheVariants.{Left, Right}

abbrev elements : List FieldName
elements =
    Text PreModifier ∷ Text PreDirectional ∷ Text PreType ∷ Text PreSeparator
    ∷ Text StreetName ∷ Text PostType ∷ Text PostDirectional ∷ Text PostModifier ∷ []

abbrev side : Side → List FieldName
side s =
    SideText s County ∷ SideText s Municipality ∷ SideText s NumberPrefix
    ∷ Numbering s First ∷ Numbering s Second ∷ Numbering s Third ∷ []

abbrev pub layout : Kind → List FieldName
layout Road = Identifier layer.Road ∷ (elements ++ (side Left ++ (side Right ++ (DateUpdate ∷ Effective ∷ Expire ∷ []))))
layout Alias = Identifier layer.Alias ∷ RoadIdentifier ∷ (elements ++ (DateUpdate ∷ []))
layout Point =
    Identifier layer.AddressPoint ∷ RoadIdentifier
    ∷ (elements ++ (Text County ∷ Text Municipality ∷ Text NumberPrefix ∷ Place ∷ Text NumberSuffix ∷ Text Unit ∷ DateUpdate ∷ Effective ∷ Expire ∷ []))
layout RoadRetirement = Identifier layer.Road ∷ Retirement ∷ []
layout PointRetirement = Identifier layer.AddressPoint ∷ Retirement ∷ []

abbrev pub field_count : Kind → ℕ
field_count kind = length (layout kind)

-- a street is known by its county and its name
abbrev pub is_required_text : TextField → Bool
is_required_text StreetName = true
is_required_text County = true
is_required_text field = false

-- numbering texts follow their numbering alone
abbrev pub is_required : FieldName → Bool
is_required (Text field) = is_required_text field
is_required (SideText s field) = is_required_text field
is_required (Numbering s text) = false
is_required Effective = false
is_required Expire = false
is_required name = true

-- where, from 0, the three numbering texts of a road's side begin, and where a point's place stands
abbrev pub numbering_field : Side → ℕ
numbering_field Left = 12
numbering_field Right = 18

abbrev pub place_field : ℕ
place_field = 13

-- the fields of those numbers are these
abbrev pub NumberingStands : Side → ℕ → Type 0
NumberingStands s index = slice_index_or (layout Road) index (Identifier layer.Road) ≡ Numbering s First

abbrev pub PlaceStands : Type 0
PlaceStands = slice_index_or (layout Point) place_field (Identifier layer.Road) ≡ Place
