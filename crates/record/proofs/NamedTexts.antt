-- Each name stands, and tells the text, at its own place in the layout. Assumes nothing.
use Rattle.std.proofs.Common.{◌≡◌, ℕ, zero, suc, ◌<◌, Bool, true, false, ◌&&◌, eqb, List, length, get_or, Some, None, Decides, Option, sym, refl, ap, subst, arith}
use Rattle.std.specs.List.{enumerate_from}
use Rattle.std.proofs.lemmas.Bool.Decides.{Decides-below_and, nat_tests}
use Rattle.std.proofs.lemmas.List.Quantifiers.{position-Some}
use Rattle.text.specs.declared.nguid.Layer.TheVariants as layer
use Rattle.delivery.specs.declared.kinds.Kind.{Kind}
use Rattle.delivery.specs.declared.kinds.Kind.TheVariants.{Road, Alias, Point, RoadRetirement, PointRetirement}
use Rattle.record.specs.Layouts.{field_count, layout}
use Rattle.record.specs.Named.{index_in, name_at, text_given, NamesTell, StandsAt}
use Rattle.record.specs.Names.{same_name}
use Rattle.record.specs.declared.field_names.FieldName.{FieldName}
use Rattle.record.specs.declared.field_names.FieldName.TheVariants.{Identifier}
use Rattle.record.proofs.Positions.{numbered_at}

is_at : Option ℕ → ℕ → Bool
is_at None index = false
is_at (Some found) index = eqb found index

is_at_decides : (found : Option ℕ) (index : ℕ) → Decides (is_at found index) (found ≡ Some index)
unfolding is_at
is_at_decides found index = grind (arith, nat_tests)

-- the first numbers of a layout are each where their names are found
all_found : Kind → ℕ → Bool
all_found kind zero = true
all_found kind (suc n) = is_at (index_in (layout kind) (name_at kind n)) n && all_found kind n

none_twice : (kind : Kind) → all_found kind (field_count kind) ≡ true
unfolding all_found is_at index_in same_name
none_twice Road = refl
none_twice Alias = refl
none_twice Point = refl
none_twice RoadRetirement = refl
none_twice PointRetirement = refl

pub each_stands : (kind : Kind) (index : ℕ) → index < field_count kind → StandsAt kind (name_at kind index) index
unfolding all_found
each_stands kind index below =
    let found = Decides-below_and (λ n. is_at (index_in (layout kind) (name_at kind n)) n) (λ n. StandsAt kind (name_at kind n) n) (all_found kind) (λ n. is_at_decides _ n) refl (λ _. refl) (field_count kind) in
    found.0 (none_twice kind) index below

-- a number and its name, as a walk over the layout hands them out
pub pair_stands : (kind : Kind) (name : FieldName) (index k : ℕ) → k < length (enumerate_from 0 (layout kind)) → (index, name) ≡ get_or (enumerate_from 0 (layout kind)) k (index, name) → StandsAt kind name index
pair_stands kind name index k below e =
    let pair = numbered_at (layout kind) (Identifier layer.Road) k index name below e in
    subst (λ n. StandsAt kind n index) (sym pair.1) (each_stands kind index pair.0)

few_fields : (kind : Kind) → field_count kind < 25
few_fields kind = grind arith

pub stands_low : (kind : Kind) (name : FieldName) (index : ℕ) → StandsAt kind name index → index < 25
unfolding index_in
stands_low kind name index e =
    let below = (position-Some (same_name name) (layout kind) index (Identifier layer.Road) e).0 in
    omega (arith, few_fields kind)

pub names_tell : (kind : Kind) (body : List ℕ) → NamesTell kind body
names_tell kind body index below = ap (text_given body) (each_stands kind index below)
