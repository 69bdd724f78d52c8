-- Why a delivery is refused and what an opened one promises, in the words of the rules. Assumes nothing.
use Rattle.std.specs.Prelude.{◌≡◌, ℕ, ◌<◌, ◌≤◌, ◌⊎◌, List, length, Option, ◌≢◌}
use Rattle.promise.specs.Reasons.{FirstThatApplies, ListedBefore}
use Rattle.delivery.specs.Contents.{entry_count, table_end, kind_byte, body_place, body_end}
use Rattle.delivery.specs.Kinds.{kind_number}
use Rattle.delivery.specs.Opening.{most_bytes, most_entries}
use Rattle.delivery.specs.Refusals.{refusal_number, told_entry}
use Rattle.delivery.specs.declared.kinds.Kind.{Kind}
use Rattle.delivery.specs.declared.refusals.DeliveryRefusal.{DeliveryRefusal}
use Rattle.delivery.specs.declared.refusals.DeliveryRefusal.TheVariants.{NoTable, BadEntry, SharedByte}

-- under 2 or over 65535 bytes, over 4095 entries, or no space for the table
abbrev pub LacksTable : List ℕ → Type 0
LacksTable bytes =
    ((length bytes < 2) ⊎ (most_bytes < length bytes))
    ⊎ ((most_entries < entry_count bytes) ⊎ (length bytes < table_end (entry_count bytes)))

abbrev pub OtherKind : List ℕ → ℕ → Type 0
OtherKind bytes entry = (kind : Kind) → kind_number kind ≢ kind_byte bytes entry

-- the body is not wholly after the table and inside the delivery
abbrev pub Misplaced : List ℕ → ℕ → Type 0
Misplaced bytes entry = (body_place bytes entry < table_end (entry_count bytes)) ⊎ (length bytes < body_end bytes entry)

abbrev pub InBody : List ℕ → ℕ → ℕ → Type 0
InBody bytes entry byte = (body_place bytes entry ≤ byte) × (byte < body_end bytes entry)

abbrev pub SharesEarlier : List ℕ → ℕ → Type 0
SharesEarlier bytes entry = (earlier : ℕ) × (byte : ℕ) × (earlier < entry) × InBody bytes earlier byte × InBody bytes entry byte

abbrev pub Applies : List ℕ → DeliveryRefusal → Type 0
Applies bytes NoTable = LacksTable bytes
Applies bytes (BadEntry entry) = (entry < entry_count bytes) × (OtherKind bytes entry ⊎ Misplaced bytes entry)
Applies bytes (SharedByte entry) = (entry < entry_count bytes) × SharesEarlier bytes entry

-- the reason given is the first of the list that applies, with the first entry, and none is given exactly when none applies
abbrev pub RefusedRightly : List ℕ → Option DeliveryRefusal → Type 0
RefusedRightly bytes refusal = FirstThatApplies (Applies bytes) (ListedBefore refusal_number told_entry) refusal

-- the bodies lie after the table and inside the delivery, and no two share a byte
pub record BodiesApart (bytes : List ℕ) : Type 0 where
  pub after_table : (entry : ℕ) → entry < entry_count bytes → table_end (entry_count bytes) ≤ body_place bytes entry
  pub inside : (entry : ℕ) → entry < entry_count bytes → body_end bytes entry ≤ length bytes
  pub apart : (entry other byte : ℕ) → entry < entry_count bytes → other < entry_count bytes → InBody bytes entry byte → InBody bytes other byte → entry ≡ other
