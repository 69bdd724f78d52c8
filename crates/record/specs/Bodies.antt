-- The fields of a body, counted from 0. Assumes nothing.
use Rattle.std.specs.Prelude.{ℕ, zero, suc, cond, List, [], Some, Option, Result}
use Rattle.delivery.specs.Fields.{field_bytes, field_end, field_fits, field_from, left_over, past_field, place_in}
use Rattle.delivery.specs.Opened.{Part}

-- where a field begins; one that does not fit is not passed
unfoldable pub field_start : List ℕ → ℕ → ℕ
field_start body zero = 0
field_start body (suc before) = past_field body (field_start body before)

-- a field by its number, or the place at which the walk to it stops
abbrev pub field_of : Part → ℕ → Result Part ℕ
field_of body field = field_from body (field_start body.bytes field)

-- the bytes of a field, and none where the body has no such field
abbrev pub text_from : List ℕ → ℕ → List ℕ
text_from body at = cond (field_fits body at) (field_bytes body at) []

abbrev pub field_text : List ℕ → ℕ → List ℕ
field_text body field = text_from body (field_start body field)

-- the place at which some more fields, and then the end, are not to be had
unfoldable pub broken_at : Part → ℕ → ℕ → Option ℕ
broken_at body at zero = left_over body at
broken_at body at (suc more) =
    cond (field_fits body.bytes at) (broken_at body (field_end body.bytes at) more) (Some (place_in body at))
