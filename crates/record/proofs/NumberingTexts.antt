-- The three texts of a numbering stand in a row, each as far behind the first as its ordinal tells. Assumes nothing.
use Rattle.std.proofs.Common.{◌≡◌, ℕ, ◌+◌, ◌-◌, List, [], Some, None, Option, sym, refl, ◌∙◌, subst, arith}
use Rattle.std.specs.Option.{option_map}
use Rattle.territory.specs.declared.numberings.Numbering.{Ghosts}
use Rattle.territory.specs.declared.numberings.NumberingText.{NumberingText}
use Rattle.territory.specs.declared.numberings.NumberingText.TheVariants.{First, Second, Third}
use Rattle.delivery.specs.declared.kinds.Kind.{Kind}
use Rattle.record.specs.Judging.{ordinal, side_reading}
use Rattle.record.specs.Layouts.{layout}
use Rattle.record.specs.Named.{index_in, text_given, StandsAt}
use Rattle.record.specs.Names.{same_name}
use Rattle.record.specs.Parts.{reading_from}
use Rattle.record.specs.declared.field_names.FieldName.TheVariants.{Numbering}
use Rattle.record.specs.declared.field_names.Side.{Side}

in_a_row : (kind : Kind) (side : Side) (which : NumberingText) → index_in (layout kind) (Numbering side which) ≡ option_map (λ first. first + ordinal which) (index_in (layout kind) (Numbering side First))
unfolding index_in same_name
in_a_row kind side which = grind arith

module _ {N P : Type 0} (m : Ghosts N P) (body : List ℕ) where
  read_from : (first second third : Option ℕ) (index before : ℕ) → second ≡ option_map (λ at. at + 1) first → third ≡ option_map (λ at. at + 2) first → option_map (λ at. at + before) first ≡ Some index → reading_from m body (index - before) ≡ m.reading (text_given body first) (text_given body second) (text_given body third)
  read_from None second third index before e f g = cc
  read_from (Some first) second third index before e f g =
      let sum : first + before ≡ index = cc in
      let back : index - before ≡ first = omega arith in
      rw (e, f, back) refl

  -- where one of the texts stands tells where the first does
  pub side_read_from : (kind : Kind) (side : Side) (which : NumberingText) (index : ℕ) → StandsAt kind (Numbering side which) index → reading_from m body (index - ordinal which) ≡ side_reading m kind body side
  side_read_from kind side which index e =
      read_from _ _ _ index (ordinal which) (in_a_row kind side Second) (in_a_row kind side Third) (sym (in_a_row kind side which) ∙ e)

  pub side_read : (kind : Kind) (side : Side) (first : ℕ) → StandsAt kind (Numbering side First) first → reading_from m body first ≡ side_reading m kind body side
  side_read kind side first e =
      let none_before : first - 0 ≡ first = omega arith in
      subst (λ at. reading_from m body at ≡ side_reading m kind body side) none_before (side_read_from kind side First first e)

  unread : (first second third : Option ℕ) → second ≡ option_map (λ at. at + 1) first → third ≡ option_map (λ at. at + 2) first → first ≡ None → m.reading [] [] [] ≡ m.reading (text_given body first) (text_given body second) (text_given body third)
  unread first second third e f none = rw (e, f, none) refl

  -- where the first stands nowhere, neither do the others
  pub side_unread : (kind : Kind) (side : Side) → index_in (layout kind) (Numbering side First) ≡ None → m.reading [] [] [] ≡ side_reading m kind body side
  side_unread kind side none = unread _ _ _ (in_a_row kind side Second) (in_a_row kind side Third) none
