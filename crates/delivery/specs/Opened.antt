-- What an opened delivery is, and what it gives. Assumes nothing.
use Rattle.std.specs.Prelude.{◌≡◌, ℕ, ◌+◌, ◌-◌, ◌<◌, true, cond, ◌&&◌, List, length, take, drop, is_some, Some, None, Ok, Err, Option, Result, nat_le, nat_lt}
use Rattle.std.specs.List.{filter_map, range_with_len}
use Rattle.std.specs.Option.{option_map}
use Rattle.delivery.specs.Contents.{entry_count, table_end, kind_byte, body_place, body_length, body_end}
use Rattle.delivery.specs.Kinds.{kind_numbered}
use Rattle.delivery.specs.Opening.{refusal_of}
use Rattle.delivery.specs.declared.deliveries.Body.{Body}
use Rattle.delivery.specs.declared.deliveries.Delivery.{Delivery}
use Rattle.delivery.specs.declared.entries.Entry.{Entry}
use Rattle.delivery.specs.declared.entries.Entries.{Entries}
use Rattle.delivery.specs.declared.refusals.DeliveryRefusal.{DeliveryRefusal}

-- a delivery without its references: all its bytes, and how many entries its table lists
pub record Contents : Type 0 where
  pub bytes : List ℕ
  pub count : ℕ

abbrev pub contents : Delivery → Contents
contents delivery = record { bytes = delivery.table.bytes.now; count = delivery.table.count }

abbrev pub unless_refused : {A R : Type 0} → A → Option R → Result A R
unless_refused x None = Ok x
unless_refused x (Some refusal) = Err refusal

abbrev pub opening : List ℕ → Result Contents DeliveryRefusal
opening bytes = unless_refused (record { bytes = bytes; count = entry_count bytes }) (refusal_of bytes)

-- the entry of a number, where the table has it
abbrev pub entry_at : Contents → ℕ → Option Entry
entry_at c entry =
    cond (nat_lt entry c.count && nat_le (table_end (entry + 1)) (length c.bytes))
    (option_map (λ kind. record { kind = kind; place = body_place c.bytes entry; length = body_length c.bytes entry }) (kind_numbered (kind_byte c.bytes entry)))
    None

-- the entries of the numbers from one on, in order
abbrev pub entries_from : Contents → ℕ → List Entry
entries_from c number = filter_map (entry_at c) (range_with_len number (c.count - number))

-- the entries that an iterator has still to give
abbrev pub entries_left : Entries → List Entry
entries_left entries = entries_from (contents entries.delivery) entries.numbers.start

-- a body without its reference: its bytes, and their place in the delivery
pub record Part : Type 0 where
  pub bytes : List ℕ
  pub place : ℕ

abbrev pub body_part : Body → Part
body_part body = record { bytes = body.bytes.now; place = body.place }

abbrev pub body_at : Contents → ℕ → Option Part
body_at c entry =
    cond (nat_lt entry c.count && (nat_le (table_end (entry + 1)) (length c.bytes) && nat_le (body_end c.bytes entry) (length c.bytes)))
    (Some (record { bytes = take (body_length c.bytes entry) (drop (body_place c.bytes entry) c.bytes); place = body_place c.bytes entry }))
    None

-- every entry that is counted is given, and its body too
pub record GivesAll (c : Contents) : Type 0 where
  pub entries : (entry : ℕ) → entry < c.count → is_some (entry_at c entry) ≡ true
  pub bodies : (entry : ℕ) → entry < c.count → is_some (body_at c entry) ≡ true
