-- Two names are called the same, and have the same side, exactly where they are equal, whatever an identifier's layer. Assumes nothing.
use Rattle.std.proofs.Common.{◌≡◌, ℕ, cond, codes, List, [], ◌∷◌, map, Some, None, Decides, Option, sym, ◌∙◌, arith}
use Rattle.std.specs.List.{find}
use Rattle.std.specs.Str.{bytes_eq}
use Rattle.std.proofs.lemmas.Bool.Decides.{Decides-and, Decides-like, same_from_decides}
use Rattle.std.proofs.lemmas.Slice.Eq.{bytes_eq-Decides}
use Rattle.territory.specs.declared.numberings.NumberingText.{NumberingText}
use Rattle.territory.specs.declared.numberings.NumberingText.TheVariants.{First, Second, Third}
use Rattle.text.specs.declared.field_text.TextField.{TextField}
use Rattle.text.specs.declared.field_text.TextField.TheVariants.{PreModifier, PreDirectional, PreType, PreSeparator, StreetName, PostType, PostDirectional, PostModifier, FullName, County, Municipality, NumberPrefix, NumberSuffix, Unit}
use Rattle.text.specs.declared.nguid.Layer.TheVariants as layer
use Rattle.record.specs.Names.{label, numbering_label, same_name, side_of, text_label, whatever_layer}
use Rattle.record.specs.contracts.field_names.FieldNamePartialEq.TheImpl.{eq-value}
use Rattle.record.proofs.NameEquality.{equal_decides}
use Rattle.record.specs.declared.field_names.FieldName.{FieldName}
use Rattle.record.specs.declared.field_names.FieldName.TheVariants.{Identifier, RoadIdentifier, Text, SideText, Numbering, Place, DateUpdate, Effective, Expire, Retirement}
use Rattle.record.specs.declared.field_names.Side.TheVariants.{Left, Right}

-- the names without their sides, each with a label of its own
sideless : List FieldName
sideless =
    Identifier layer.Road ∷ RoadIdentifier ∷ Place ∷ DateUpdate ∷ Effective ∷ Expire ∷ Retirement
    ∷ Numbering Left First ∷ Numbering Left Second ∷ Numbering Left Third
    ∷ map (λ field. Text field) (PreModifier ∷ PreDirectional ∷ PreType ∷ PreSeparator ∷ StreetName ∷ PostType ∷ PostDirectional ∷ PostModifier ∷ FullName ∷ County ∷ Municipality ∷ NumberPrefix ∷ NumberSuffix ∷ Unit ∷ [])

called : List ℕ → Option FieldName
called text = find (λ name. bytes_eq (label name) text) sideless

text_called : (field : TextField) → called (text_label field) ≡ Some (Text field)
unfolding called sideless
text_called field = grind arith

numbering_called : (which : NumberingText) → called (numbering_label which) ≡ Some (Numbering Left which)
unfolding called sideless
numbering_called which = grind arith

-- the name that has a side and a label
sided : List ℕ → Option FieldName → Option FieldName
sided side None = None
sided side (Some (Text field)) = Some (cond (bytes_eq side (codes "left")) (SideText Left field) (cond (bytes_eq side (codes "right")) (SideText Right field) (Text field)))
sided side (Some (Numbering s which)) = Some (cond (bytes_eq side (codes "left")) (Numbering Left which) (Numbering Right which))
sided side (Some name) = Some name

-- the side and the label tell the name
told : (name : FieldName) → sided (side_of name) (called (label name)) ≡ Some (whatever_layer name)
unfolding sided called sideless
told name = grind (arith, text_called, numbering_called)

-- and follow from it
follow : (name : FieldName) → (label (whatever_layer name) ≡ label name) × (side_of (whatever_layer name) ≡ side_of name)
follow name = grind arith

pub same_decides : (a b : FieldName) → Decides (same_name a b) (whatever_layer a ≡ whatever_layer b)
unfolding same_name
same_decides a b =
    Decides-like _
    (λ same. let e : sided (side_of a) (called (label a)) ≡ sided (side_of b) (called (label b)) = cc in let f = sym (told a) ∙ e ∙ told b in cc)
    (λ e. let p = follow a in let q = follow b in (cc, cc))
    (Decides-and _ _ (bytes_eq-Decides (label a) (label b)) (bytes_eq-Decides (side_of a) (side_of b)))

-- what `==` answers of the names, whatever their layers
pub equal_same : (a b x y : FieldName) → x ≡ whatever_layer a → y ≡ whatever_layer b → eq-value.it x y ≡ same_name a b
equal_same a b x y e f = same_from_decides _ _ (Decides-like _ (λ h. sym e ∙ h ∙ f) (λ h. e ∙ h ∙ sym f) (equal_decides x y)) (same_decides a b)
