-- The text of a field by its name. Assumes nothing.
use Rattle.std.specs.Prelude.{◌≡◌, ℕ, ◌<◌, List, [], Some, None, Option, slice_index_or}
use Rattle.std.specs.List.{position}
use Rattle.text.specs.declared.nguid.Layer.TheVariants as layer
use Rattle.delivery.specs.declared.kinds.Kind.{Kind}
use Rattle.record.specs.Bodies.{field_text}
use Rattle.record.specs.Layouts.{field_count, layout}
use Rattle.record.specs.Names.{same_name}
use Rattle.record.specs.declared.field_names.FieldName.{FieldName}
use Rattle.record.specs.declared.field_names.FieldName.TheVariants.{Identifier}

-- the name of a field, by its number below the count of fields, from 0
abbrev pub name_at : Kind → ℕ → FieldName
name_at kind index = slice_index_or (layout kind) index (Identifier layer.Road)

-- where the name stands in a list, if it does
unfoldable pub index_in : List FieldName → FieldName → Option ℕ
index_in names name = position (same_name name) names

-- the kind has a field of the name, at the number in its layout
abbrev pub StandsAt : Kind → FieldName → ℕ → Type 0
StandsAt kind name index = index_in (layout kind) name ≡ Some index

abbrev pub text_given : List ℕ → Option ℕ → List ℕ
text_given body None = []
text_given body (Some index) = field_text body index

-- the text of the field that has the name, and none where the kind has no such field
abbrev pub text_of : Kind → List ℕ → FieldName → List ℕ
text_of kind body name = text_given body (index_in (layout kind) name)

-- each name tells the text at its own place in the layout
abbrev pub NamesTell : Kind → List ℕ → Type 0
NamesTell kind body = (index : ℕ) → index < field_count kind → text_of kind body (name_at kind index) ≡ field_text body index
