-- The numbers of the kinds. Assumes nothing.
use Rattle.std.specs.Prelude.{ℕ, cond, Some, None, Option, Result, ◌==◌}
use Rattle.std.specs.Option.{ok_or}
use Rattle.delivery.specs.declared.kinds.Kind.{Kind}
use Rattle.delivery.specs.declared.kinds.Kind.TheVariants.{Road, Alias, Point, RoadRetirement, PointRetirement}
use Rattle.delivery.specs.declared.kinds.UnknownKind.{UnknownKind}

abbrev pub kind_number : Kind → ℕ
kind_number Road = 1
kind_number Alias = 2
kind_number Point = 3
kind_number RoadRetirement = 4
kind_number PointRetirement = 5

-- the kind that has the number, if any has
abbrev pub kind_numbered : ℕ → Option Kind
kind_numbered n =
    cond (n == kind_number Road) (Some Road)
    (cond (n == kind_number Alias) (Some Alias)
    (cond (n == kind_number Point) (Some Point)
    (cond (n == kind_number RoadRetirement) (Some RoadRetirement)
    (cond (n == kind_number PointRetirement) (Some PointRetirement) None))))

-- the kind that has the number, or the number, which no kind has
abbrev pub kind_or_unknown : ℕ → Result Kind UnknownKind
kind_or_unknown n = ok_or (kind_numbered n) (record { 0 = n })
