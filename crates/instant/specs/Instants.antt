-- The order of instants, and the lifetime between two. Assumes nothing.
use Rattle.std.specs.Prelude.{Bool, not, ◌&&◌, Option, int_lt}
use Rattle.std.specs.Bool.{then_some}
use Rattle.territory.specs.Stretches.{from_to}
use Rattle.territory.specs.declared.stretches.Stretch.{Stretch}
use Rattle.instant.specs.declared.date_time.Instant.{Instant}

abbrev pub instant_before : Instant → Instant → Bool
instant_before a b = int_lt a.tenths b.tenths

-- neither is before the other
abbrev pub instant_level : Instant → Instant → Bool
instant_level a b = not (instant_before a b) && not (instant_before b a)

-- from an Effective up to, without, an Expire that is not before it
abbrev pub lifetime_from : Instant → Instant → Option (Stretch Instant)
lifetime_from effective expire = then_some (not (instant_before expire effective)) (from_to effective expire)
