-- The reason given is the first that applies. Assumes nothing.
use Rattle.std.proofs.Common.{◌≡◌, ℕ, ◌+◌, ◌<◌, Bool, true, false, cond, Some, None, Decides, Option, sym, refl, ◌∙◌, ⊎_elim, arith}
use Rattle.std.proofs.lemmas.Bool.{true≢false}
use Rattle.std.proofs.lemmas.List.Quantifiers.{position-Some}
use Rattle.std.specs.List.{position}
use Rattle.std.specs.Option.{option_map, option_or}
use Rattle.promise.specs.Reasons.{ListedBefore}
use Rattle.promise.proofs.Decided.{true_decides}
use Rattle.promise.proofs.Reasons.{refused_first, refused_none}
use Rattle.territory.specs.declared.numberings.Numbering.{Ghosts}
use Rattle.text.specs.declared.nguid.Layer.TheVariants as layer
use Rattle.delivery.specs.Fields.{place_in}
use Rattle.delivery.specs.Opened.{Part}
use Rattle.delivery.specs.declared.kinds.Kind.{Kind}
use Rattle.record.specs.Bodies.{field_start, broken_at}
use Rattle.record.specs.Checking.{no_lifetime, fault_told, refusal_of}
use Rattle.record.specs.Forms.{RefusedByForm}
use Rattle.record.specs.Judging.{faulty}
use Rattle.record.specs.Laid.{BreaksAt}
use Rattle.record.specs.Layouts.{field_count, layout}
use Rattle.record.specs.Named.{name_at}
use Rattle.record.specs.Refusals.{refusal_number, told_field}
use Rattle.record.specs.Rules.{Applies, Refused, RefusedRightly}
use Rattle.record.specs.declared.field_names.FieldName.{FieldName}
use Rattle.record.specs.declared.field_names.FieldName.TheVariants.{Identifier}
use Rattle.record.specs.declared.refusals.BodyRefusal.{BodyRefusal}
use Rattle.record.specs.declared.refusals.BodyRefusal.TheVariants.{Broken, Field, Lifetime}
use Rattle.record.proofs.Judged.{fault_decides, lifetime_decides}
use Rattle.record.proofs.Laying.{breaks_exactly}
use Rattle.record.proofs.Positions.{none_passes}

abbrev Earlier : BodyRefusal → BodyRefusal → Type 0
Earlier = ListedBefore refusal_number told_field

before_broken : (p : ℕ) (s : BodyRefusal) → Earlier s (Broken p) → ⊥
before_broken p s = grind arith

-- whatever the tests of fields and of the lifetime decide
module _ {N P : Type 0} (m : Ghosts N P) (kind : Kind) (body : Part) (AtFault : FieldName → Type 0) (NoLifetime : Type 0) where
  module _ (faults : (name : FieldName) → Decides (faulty m kind body.bytes name) (AtFault name)) (short : Decides (no_lifetime kind body.bytes) NoLifetime) where
    abbrev Holds : BodyRefusal → Type 0
    Holds = Applies AtFault NoLifetime kind body

    sound : (index : ℕ) → faulty m kind body.bytes (name_at kind index) ≡ false → AtFault (name_at kind index) → ⊥
    sound index e fault = true≢false (sym ((faults (name_at kind index)).1 fault) ∙ e)

    module _ (whole : broken_at body 0 (field_count kind) ≡ None) where
      unbroken : (place : ℕ) → BreaksAt (field_count kind) body place → ⊥
      unbroken place w = let e = (breaks_exactly body (field_count kind)).complete place w in cc

      before_field : (i place : ℕ) → ((j : ℕ) → j < i → faulty m kind body.bytes (name_at kind j) ≡ false) → (s : BodyRefusal) → Holds s → Earlier s (Field (i + 1) place) → ⊥
      before_field i place good (Broken q) a = λ _. unbroken q a
      before_field i place good (Field n q) a = ⊎_elim (λ h. omega arith) (λ h. sound a.index (good a.index (omega (arith, a.counted, h.1))) a.fault)
      before_field i place good Lifetime a = λ h. grind arith

      module _ (good : (j : ℕ) → j < field_count kind → faulty m kind body.bytes (name_at kind j) ≡ false) where
        before_lifetime : (s : BodyRefusal) → Holds s → Earlier s Lifetime → ⊥
        before_lifetime (Broken q) a = λ _. unbroken q a
        before_lifetime (Field n q) a = λ _. sound a.index (good a.index a.below) a.fault
        before_lifetime Lifetime a = λ h. grind arith

        none_applies : no_lifetime kind body.bytes ≡ false → (s : BodyRefusal) → Holds s → ⊥
        none_applies e (Broken q) a = unbroken q a
        none_applies e (Field n q) a = sound a.index (good a.index a.below) a.fault
        none_applies e Lifetime a = true≢false (sym (short.1 a) ∙ e)

    at : (broken fault : Option ℕ) (late : Bool) → broken_at body 0 (field_count kind) ≡ broken → position (faulty m kind body.bytes) (layout kind) ≡ fault → no_lifetime kind body.bytes ≡ late → Refused AtFault NoLifetime kind body (option_or (option_map Broken broken) (option_or (option_map (fault_told body) fault) (cond late (Some Lifetime) None)))
    at (Some p) fault late e f g = refused_first _ _ (Broken p) ((breaks_exactly body (field_count kind)).sound p e) (λ s _. before_broken p s)
    at None (Some i) late e f g =
        let found = position-Some (faulty m kind body.bytes) (layout kind) i (Identifier layer.Road) f in
        refused_first _ _ (fault_told body i) (record { index = i; below = found.0; counted = refl; stands = refl; fault = (faults (name_at kind i)).0 found.1 }) (before_field e i (place_in body (field_start body.bytes i)) found.2)
    at None None true e f g = refused_first _ _ Lifetime (short.0 g) (before_lifetime e (none_passes (faulty m kind body.bytes) (Identifier layer.Road) (layout kind) f))
    at None None false e f g = refused_none _ _ (none_applies e (none_passes (faulty m kind body.bytes) (Identifier layer.Road) (layout kind) f) g)

    refused : Refused AtFault NoLifetime kind body (refusal_of m kind body)
    unfolding refusal_of
    refused = at _ _ _ refl refl refl

module _ {N P : Type 0} (m : Ghosts N P) (kind : Kind) (body : Part) where
  pub refused_rightly : RefusedRightly m kind body (refusal_of m kind body)
  unfolding RefusedRightly
  refused_rightly = refused m kind body _ _ (λ name. true_decides (faulty m kind body.bytes name)) (true_decides (no_lifetime kind body.bytes))

  pub refused_by_form : RefusedByForm m kind body (refusal_of m kind body)
  unfolding RefusedByForm
  refused_by_form = refused m kind body _ _ (fault_decides m kind body.bytes) (lifetime_decides kind body.bytes)
