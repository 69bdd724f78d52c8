-- The most bytes that each text may have. The widths stand here alone. Assumes nothing.
use Rattle.std.specs.Prelude.{ℕ}
use Rattle.text.specs.declared.field_text.TextField.{TextField}
use Rattle.text.specs.declared.field_text.TextField.TheVariants.{PreModifier, PreDirectional, PreType, PreSeparator, StreetName, PostType, PostDirectional, PostModifier, FullName, County, Municipality, NumberPrefix, NumberSuffix, Unit}

abbrev pub full_name_width : ℕ
full_name_width = 245

abbrev pub width_of : TextField → ℕ
width_of PreModifier = 15
width_of PreDirectional = 9
width_of PreType = 50
width_of PreSeparator = 20
width_of StreetName = 60
width_of PostType = 50
width_of PostDirectional = 9
width_of PostModifier = 25
width_of FullName = full_name_width
width_of County = 40
width_of Municipality = 100
width_of NumberPrefix = 15
width_of NumberSuffix = 15
width_of Unit = 75

abbrev pub nguid_width : ℕ
nguid_width = 254
