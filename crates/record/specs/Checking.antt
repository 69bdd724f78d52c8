-- For which reason a body is refused. Assumes nothing.
use Rattle.std.specs.Prelude.{ℕ, ◌+◌, Bool, false, cond, not, List, Some, None, Option}
use Rattle.std.specs.List.{position}
use Rattle.std.specs.Option.{option_map, option_or}
use Rattle.territory.specs.declared.numberings.Numbering.{Ghosts}
use Rattle.instant.specs.Instants.{instant_before}
use Rattle.instant.specs.Limits.{earliest, latest, instant_or}
use Rattle.instant.specs.declared.date_time.Instant.{Instant}
use Rattle.delivery.specs.Fields.{place_in}
use Rattle.delivery.specs.Opened.{Part}
use Rattle.delivery.specs.declared.kinds.Kind.{Kind}
use Rattle.record.specs.Bodies.{field_start, broken_at}
use Rattle.record.specs.Judging.{faulty}
use Rattle.record.specs.Layouts.{field_count, layout}
use Rattle.record.specs.Named.{text_of}
use Rattle.record.specs.declared.field_names.FieldName.TheVariants.{Effective, Expire}
use Rattle.record.specs.declared.refusals.BodyRefusal.{BodyRefusal}
use Rattle.record.specs.declared.refusals.BodyRefusal.TheVariants.{Broken, Field, Lifetime}

-- two instants, of which the first is not before the second
abbrev pub no_time : Option Instant → Option Instant → Bool
no_time None expire = false
no_time (Some effective) None = false
no_time (Some effective) (Some expire) = not (instant_before effective expire)

-- a kind without these fields lasts from the earliest instant to the latest
abbrev pub no_lifetime : Kind → List ℕ → Bool
no_lifetime kind body = no_time (instant_or earliest (text_of kind body Effective)) (instant_or latest (text_of kind body Expire))

-- a field is told by its number from 1, and the place of its length byte
abbrev pub fault_told : Part → ℕ → BodyRefusal
fault_told body index = Field (index + 1) (place_in body (field_start body.bytes index))

module _ {N P : Type 0} (m : Ghosts N P) (kind : Kind) (body : Part) where
  -- the first field at fault, if any
  abbrev pub fault_of : Option BodyRefusal
  fault_of = option_map (fault_told body) (position (faulty m kind body.bytes) (layout kind))

  -- the reason for which the body is refused, if any
  unfoldable pub refusal_of : Option BodyRefusal
  refusal_of =
      option_or (option_map Broken (broken_at body 0 (field_count kind)))
      (option_or fault_of (cond (no_lifetime kind body.bytes) (Some Lifetime) None))
