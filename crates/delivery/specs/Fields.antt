-- The fields of a body: each a length byte and that many bytes. Assumes nothing.
use Rattle.std.specs.Prelude.{ℕ, ◌+◌, ◌-◌, ◌^◌, min, Bool, cond, ◌&&◌, List, length, take, drop, Some, None, Ok, Err, Option, Result, nat_le, nat_lt, slice_index}
use Rattle.delivery.specs.Opened.{Part}
use Rattle.delivery.specs.declared.fields.Field.{Field}

abbrev pub field_part : Field → Part
field_part field = record { bytes = field.bytes.now; place = field.place }

-- the end of a field whose length byte stands at a place of the body
abbrev pub field_end : List ℕ → ℕ → ℕ
field_end body at = at + 1 + slice_index body at

-- the field whose length byte stands there lies inside the body
abbrev pub field_fits : List ℕ → ℕ → Bool
field_fits body at = nat_lt at (length body) && nat_le (field_end body at) (length body)

abbrev pub field_bytes : List ℕ → ℕ → List ℕ
field_bytes body at = take (slice_index body at) (drop (at + 1) body)

-- a place in the delivery, as a number that the machine has
abbrev pub place_in : Part → ℕ → ℕ
place_in body at = min (body.place + at) (2 ^ 64 - 1)

abbrev pub field_from : Part → ℕ → Result Part ℕ
field_from body at =
    cond (field_fits body.bytes at) (Ok (record { bytes = field_bytes body.bytes at; place = place_in body at })) (Err (place_in body at))

-- where the reader stands after it was asked for the field there
abbrev pub past_field : List ℕ → ℕ → ℕ
past_field body at = cond (field_fits body at) (field_end body at) at

-- the place of the first byte that is left, if one is
abbrev pub left_over : Part → ℕ → Option ℕ
left_over body at = cond (nat_lt at (length body.bytes)) (Some (place_in body at)) None
