-- What the fields are called. A name is known by what it is called and by its side; an identifier's layer is no part of it. Assumes nothing.
use Rattle.std.specs.Prelude.{ℕ, Bool, ◌&&◌, List, [], codes}
use Rattle.territory.specs.declared.numberings.NumberingText.{NumberingText}
use Rattle.territory.specs.declared.numberings.NumberingText.TheVariants.{First, Second, Third}
use Rattle.std.specs.Str.{bytes_eq}
use Rattle.text.specs.declared.field_text.TextField.{TextField}
use Rattle.text.specs.declared.field_text.TextField.TheVariants.{PreModifier, PreDirectional, PreType, PreSeparator, StreetName, PostType, PostDirectional, PostModifier, FullName, County, Municipality, NumberPrefix, NumberSuffix, Unit}
use Rattle.text.specs.declared.nguid.Layer.TheVariants as layer
use Rattle.record.specs.declared.field_names.FieldName.{FieldName}
use Rattle.record.specs.declared.field_names.FieldName.TheVariants.{Identifier, RoadIdentifier, Text, SideText, Numbering, Place, DateUpdate, Effective, Expire, Retirement}
use Rattle.record.specs.declared.field_names.Side.{Side}
use Rattle.record.specs.declared.field_names.Side.TheVariants.{Left, Right}

abbrev pub text_label : TextField → List ℕ
text_label PreModifier = codes "St_PreMod"
text_label PreDirectional = codes "St_PreDir"
text_label PreType = codes "St_PreTyp"
text_label PreSeparator = codes "St_PreSep"
text_label StreetName = codes "St_Name"
text_label PostType = codes "St_PosTyp"
text_label PostDirectional = codes "St_PosDir"
text_label PostModifier = codes "St_PosMod"
text_label FullName = codes "full name"
text_label County = codes "county"
text_label Municipality = codes "municipality"
text_label NumberPrefix = codes "number prefix"
text_label NumberSuffix = codes "number suffix"
text_label Unit = codes "unit"

abbrev pub numbering_label : NumberingText → List ℕ
numbering_label First = codes "first numbering text"
numbering_label Second = codes "second numbering text"
numbering_label Third = codes "third numbering text"

abbrev pub label : FieldName → List ℕ
label (Identifier layer) = codes "NGUID"
label RoadIdentifier = codes "road NGUID"
label (Text field) = text_label field
label (SideText side field) = text_label field
label (Numbering side text) = numbering_label text
label Place = codes "place"
label DateUpdate = codes "DateUpdate"
label Effective = codes "Effective"
label Expire = codes "Expire"
label Retirement = codes "instant"

abbrev pub side_label : Side → List ℕ
side_label Left = codes "left"
side_label Right = codes "right"

-- of a field that describes no side, nothing
abbrev pub side_of : FieldName → List ℕ
side_of (SideText side field) = side_label side
side_of (Numbering side text) = side_label side
side_of name = []

unfoldable pub same_name : FieldName → FieldName → Bool
same_name a b = bytes_eq (label a) (label b) && bytes_eq (side_of a) (side_of b)

-- the name, whatever an identifier's layer
abbrev pub whatever_layer : FieldName → FieldName
whatever_layer (Identifier which) = Identifier layer.Road
whatever_layer name = name
