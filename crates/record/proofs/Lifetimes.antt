-- The lifetime of a body by where its Effective stands. Assumes nothing.
use Rattle.std.proofs.Common.{◌≡◌, ℕ, ◌+◌, Bool, false, List, Some, None, Option, arith}
use Rattle.std.specs.Option.{option_map}
use Rattle.instant.specs.Limits.{earliest, latest, instant_or}
use Rattle.delivery.specs.declared.kinds.Kind.{Kind}
use Rattle.record.specs.Bodies.{field_text}
use Rattle.record.specs.Checking.{no_lifetime, no_time}
use Rattle.record.specs.Layouts.{layout}
use Rattle.record.specs.Named.{index_in, text_given}
use Rattle.record.specs.Names.{same_name}
use Rattle.record.specs.declared.field_names.FieldName.TheVariants.{Effective, Expire}

expire_follows : (kind : Kind) → index_in (layout kind) Expire ≡ option_map (λ at. at + 1) (index_in (layout kind) Effective)
unfolding index_in same_name
expire_follows kind = grind arith

-- by the Effective at the number and the Expire after it, where the kind has them
abbrev pub no_lifetime_at : List ℕ → Option ℕ → Bool
no_lifetime_at body None = false
no_lifetime_at body (Some at) = no_time (instant_or earliest (field_text body at)) (instant_or latest (field_text body (at + 1)))

by_two : (body : List ℕ) (effective expire : Option ℕ) → expire ≡ option_map (λ at. at + 1) effective → no_time (instant_or earliest (text_given body effective)) (instant_or latest (text_given body expire)) ≡ no_lifetime_at body effective
by_two body effective expire e = grind arith

pub lifetime_told : (kind : Kind) (body : List ℕ) → no_lifetime kind body ≡ no_lifetime_at body (index_in (layout kind) Effective)
lifetime_told kind body = by_two body _ _ (expire_follows kind)
