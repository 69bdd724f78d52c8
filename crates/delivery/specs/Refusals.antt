-- The numbers of the reasons for which a delivery is refused, and the entry that each tells. Assumes nothing.
use Rattle.std.specs.Prelude.{ℕ}
use Rattle.delivery.specs.declared.refusals.DeliveryRefusal.{DeliveryRefusal}
use Rattle.delivery.specs.declared.refusals.DeliveryRefusal.TheVariants.{NoTable, BadEntry, SharedByte}

abbrev pub refusal_number : DeliveryRefusal → ℕ
refusal_number NoTable = 1
refusal_number (BadEntry entry) = 2
refusal_number (SharedByte entry) = 3

abbrev pub told_entry : DeliveryRefusal → ℕ
told_entry NoTable = 0
told_entry (BadEntry entry) = entry
told_entry (SharedByte entry) = entry
