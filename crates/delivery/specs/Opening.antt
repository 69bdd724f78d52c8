-- When a delivery is opened, and for which reason it is refused. Assumes nothing.
use Rattle.std.specs.Prelude.{ℕ, Bool, cond, not, ◌||◌, List, length, is_some, Some, Option, nat_lt}
use Rattle.std.specs.Option.{option_map, option_or}
use Rattle.promise.specs.First.{first_below, any_below}
use Rattle.territory.specs.BytePlaces.{byte_place, place_before}
use Rattle.territory.specs.Stretches.{meeting}
use Rattle.delivery.specs.Contents.{entry_count, table_end, kind_byte, body_place, body_end}
use Rattle.delivery.specs.Kinds.{kind_numbered}
use Rattle.delivery.specs.declared.refusals.DeliveryRefusal.{DeliveryRefusal}
use Rattle.delivery.specs.declared.refusals.DeliveryRefusal.TheVariants.{NoTable, BadEntry, SharedByte}

abbrev pub most_bytes : ℕ
most_bytes = 65535

abbrev pub most_entries : ℕ
most_entries = 4095

abbrev pub no_table : List ℕ → Bool
no_table bytes =
    (nat_lt (length bytes) 2 || nat_lt most_bytes (length bytes))
    || (nat_lt most_entries (entry_count bytes) || nat_lt (length bytes) (table_end (entry_count bytes)))

abbrev pub bad_entry : List ℕ → ℕ → Bool
bad_entry bytes entry =
    not (is_some (kind_numbered (kind_byte bytes entry)))
    || (nat_lt (body_place bytes entry) (table_end (entry_count bytes)) || nat_lt (length bytes) (body_end bytes entry))

-- the byte spans of two bodies meet as territories
abbrev pub share_a_byte : List ℕ → ℕ → ℕ → Bool
share_a_byte bytes entry other =
    is_some (meeting place_before (byte_place (body_place bytes entry)) (byte_place (body_end bytes entry))
    (byte_place (body_place bytes other)) (byte_place (body_end bytes other)))

abbrev pub shares_earlier : List ℕ → ℕ → Bool
shares_earlier bytes entry = any_below (share_a_byte bytes entry) entry

-- the reason for which the delivery is refused, if any
abbrev pub refusal_of : List ℕ → Option DeliveryRefusal
refusal_of bytes =
    cond (no_table bytes) (Some NoTable)
    (option_or (option_map BadEntry (first_below (bad_entry bytes) (entry_count bytes)))
    (option_map SharedByte (first_below (shares_earlier bytes) (entry_count bytes))))
