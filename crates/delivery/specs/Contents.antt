-- How the table of contents lies in the bytes of a delivery: a two-byte count, then five bytes for each entry:
-- its kind (1), the place of its body (2) and the length of its body (2), highest byte first. Assumes nothing.
use Rattle.std.specs.Prelude.{ℕ, ◌+◌, ◌*◌, List, slice_index}

abbrev pub number_at : List ℕ → ℕ → ℕ
number_at bytes at = 256 * slice_index bytes at + slice_index bytes (at + 1)

abbrev pub entry_count : List ℕ → ℕ
entry_count bytes = number_at bytes 0

-- the end of a table of so many entries, where the line of the entry of that number begins
abbrev pub table_end : ℕ → ℕ
table_end count = 2 + 5 * count

abbrev pub kind_byte : List ℕ → ℕ → ℕ
kind_byte bytes entry = slice_index bytes (table_end entry)

abbrev pub body_place : List ℕ → ℕ → ℕ
body_place bytes entry = number_at bytes (table_end entry + 1)

abbrev pub body_length : List ℕ → ℕ → ℕ
body_length bytes entry = number_at bytes (table_end entry + 3)

abbrev pub body_end : List ℕ → ℕ → ℕ
body_end bytes entry = body_place bytes entry + body_length bytes entry
