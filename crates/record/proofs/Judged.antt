-- The tests of fields and lifetimes decide what the rules say of them. Assumes nothing.
use Rattle.std.proofs.Common.{◌≡◌, ℕ, false, eqb, List, [], length, Err, Decides, Option, Result, refl, ap, arith}
use Rattle.std.proofs.lemmas.Bool.Decides.{Decides-and, Decides-eqb, Decides-like, Decides-not, Decides-or}
use Rattle.std.proofs.lemmas.List.{nil_from_length}
use Rattle.promise.specs.Exactly.{Exactly}
use Rattle.promise.proofs.Decided.{exactly_decides, none_decides, true_decides}
use Rattle.territory.specs.declared.numberings.Numbering.{Ghosts}
use Rattle.territory.specs.declared.numberings.NumberingText.{NumberingText}
use Rattle.text.proofs.FieldLaws.{field_decides}
use Rattle.text.proofs.NguidLaws.{nguid_exactly}
use Rattle.text.specs.declared.nguid.Layer.TheVariants as layer
use Rattle.instant.proofs.Bounds.{exactly_or}
use Rattle.instant.proofs.Exact.{instant_exactly}
use Rattle.instant.specs.Instants.{instant_before}
use Rattle.instant.specs.Limits.{earliest, latest, TellsOr}
use Rattle.instant.specs.declared.date_time.Instant.{Instant}
use Rattle.delivery.specs.declared.kinds.Kind.{Kind}
use Rattle.record.specs.Checking.{no_lifetime, no_time}
use Rattle.record.specs.Judging.{blames, faulty, faulty_text, has_form, misread}
use Rattle.record.specs.Layouts.{is_required}
use Rattle.record.specs.Named.{text_of}
use Rattle.record.specs.Forms.{AtFault, HasForm, NoLifetime, NumberingAtFault, TextAtFault}
use Rattle.record.specs.declared.field_names.FieldName.{FieldName}
use Rattle.record.specs.declared.field_names.FieldName.TheVariants.{Identifier, RoadIdentifier, Text, SideText, Numbering, Place, DateUpdate, Effective, Expire, Retirement}

form_decides : (name : FieldName) (text : List ℕ) → Decides (has_form name text) (HasForm name text)
form_decides (Identifier which) text = exactly_decides _ _ (nguid_exactly which text)
form_decides RoadIdentifier text = exactly_decides _ _ (nguid_exactly layer.Road text)
form_decides (Text field) text = field_decides field text
form_decides (SideText side field) text = field_decides field text
form_decides (Numbering side which) text = (λ _. tt, λ _. refl)
form_decides Place text = (λ _. tt, λ _. refl)
form_decides DateUpdate text = exactly_decides _ _ (instant_exactly text)
form_decides Effective text = exactly_decides _ _ (exactly_or earliest text _ refl)
form_decides Expire text = exactly_decides _ _ (exactly_or latest text _ refl)
form_decides Retirement text = exactly_decides _ _ (instant_exactly text)

empty_decides : (text : List ℕ) → Decides (eqb (length text) 0) (text ≡ [])
empty_decides text = Decides-like _ (nil_from_length text) (ap length) (Decides-eqb (length text) 0)

pub text_decides : (name : FieldName) (text : List ℕ) → Decides (faulty_text name text) (TextAtFault name text)
text_decides name text =
    Decides-or _ _ (Decides-and _ _ (true_decides (is_required name)) (empty_decides text)) (Decides-not _ (form_decides name text))

module _ {N : Type 0} where
  blames_decides : (reading : Result N NumberingText) (which : NumberingText) → Decides (blames reading which) (reading ≡ Err which)
  blames_decides reading which = grind arith

module _ {N P : Type 0} (m : Ghosts N P) (kind : Kind) (body : List ℕ) where
  misread_decides : (name : FieldName) → Decides (misread m kind body name) (NumberingAtFault m kind body name)
  misread_decides name = grind (arith, blames_decides, none_decides)

  pub fault_decides : (name : FieldName) → Decides (faulty m kind body name) (AtFault m kind body name)
  unfolding faulty
  fault_decides name = Decides-or _ _ (text_decides name (text_of kind body name)) (misread_decides name)

-- both instants are read, and the first is not before the second
module _ (Begins Ends : Instant → Type 0) where
  abbrev Late : Type 0
  Late = (effective : Instant) × (expire : Instant) × Begins effective × Ends expire × (instant_before effective expire ≡ false)

  no_time_decides : (effective expire : Option Instant) → Exactly Begins effective → Exactly Ends expire → Decides (no_time effective expire) Late
  no_time_decides effective expire begins ends = grind arith

pub lifetime_decides : (kind : Kind) (body : List ℕ) → Decides (no_lifetime kind body) (NoLifetime kind body)
lifetime_decides kind body =
    let told = no_time_decides (TellsOr earliest (text_of kind body Effective)) (TellsOr latest (text_of kind body Expire)) _ _ (exactly_or earliest (text_of kind body Effective) _ refl) (exactly_or latest (text_of kind body Expire) _ refl) in (
      λ h. let w = told.0 h in record { effective = w.0; expire = w.1; begins = w.2; ends = w.3; late = w.4 },
      λ l. told.1 (l.effective, l.expire, l.begins, l.ends, l.late),
    )
