-- How kinds, entries, refusals and other errors are printed for a person. Assumes nothing.
use Rattle.std.specs.Prelude.{ℕ, List, ◌++◌, codes, decimal}
use Rattle.delivery.specs.Refusals.{refusal_number}
use Rattle.delivery.specs.declared.entries.Entry.{Entry}
use Rattle.delivery.specs.declared.fields.FieldPastEnd.{FieldPastEnd}
use Rattle.delivery.specs.declared.kinds.Kind.{Kind}
use Rattle.delivery.specs.declared.kinds.Kind.TheVariants.{Road, Alias, Point, RoadRetirement, PointRetirement}
use Rattle.delivery.specs.declared.kinds.UnknownKind.{UnknownKind}
use Rattle.delivery.specs.declared.refusals.DeliveryRefusal.{DeliveryRefusal}
use Rattle.delivery.specs.declared.refusals.DeliveryRefusal.TheVariants.{NoTable, BadEntry, SharedByte}

abbrev pub kind_name : Kind → List ℕ
kind_name Road = codes "road"
kind_name Alias = codes "alias"
kind_name Point = codes "point"
kind_name RoadRetirement = codes "road retirement"
kind_name PointRetirement = codes "point retirement"

abbrev pub entry_text : Entry → List ℕ
entry_text entry =
    kind_name entry.kind ++ (codes " at " ++ (decimal entry.place ++ (codes ", " ++ (decimal entry.length ++ codes " bytes"))))

-- the number of the reason, and the entry at fault, if one is
abbrev pub refusal_text : DeliveryRefusal → List ℕ
refusal_text NoTable = codes "delivery refused " ++ decimal (refusal_number NoTable)
refusal_text (BadEntry entry) = codes "delivery refused " ++ (decimal (refusal_number (BadEntry entry)) ++ (codes " " ++ decimal entry))
refusal_text (SharedByte entry) = codes "delivery refused " ++ (decimal (refusal_number (SharedByte entry)) ++ (codes " " ++ decimal entry))

abbrev pub unknown_kind_text : UnknownKind → List ℕ
unknown_kind_text unknown = codes "no kind has the number " ++ decimal unknown.0

abbrev pub past_end_text : FieldPastEnd → List ℕ
past_end_text past = codes "a field passes the end of its body at " ++ decimal past.place
