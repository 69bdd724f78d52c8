-- Texts byte by byte: which are the same, and which bytes a kind of text is made of. Assumes nothing.
use Rattle.std.specs.Prelude.{◌≡◌, ℕ, ◌≤◌, Bool, not, ◌&&◌, ◌||◌, ◌≢◌, ◌⊎◌, List, ◌==◌, nat_le}
use Rattle.std.specs.Char.{IsAsciiAlphanumeric, is_ascii_alphanumeric}
use Rattle.std.specs.Str.{bytes_eq}

-- the same bytes in the same order
unfoldable pub same_bytes : List ℕ → List ℕ → Bool
same_bytes a b = bytes_eq a b

-- a byte of plain texts: from space to tilde
abbrev pub is_printable_byte : ℕ → Bool
is_printable_byte byte = nat_le 32 byte && nat_le byte 126

abbrev pub IsPrintableByte : ℕ → Type 0
IsPrintableByte byte = (32 ≤ byte) × (byte ≤ 126)

-- of local identifiers: the same without space and colon
abbrev pub is_local_byte : ℕ → Bool
is_local_byte byte = nat_le 33 byte && (nat_le byte 126 && not (byte == 58))

abbrev pub IsLocalByte : ℕ → Type 0
IsLocalByte byte = (33 ≤ byte) × (byte ≤ 126) × (byte ≢ 58)

-- of agencies: letters, digits, hyphens and dots
abbrev pub is_agency_byte : ℕ → Bool
is_agency_byte byte = is_ascii_alphanumeric byte || (byte == 45 || byte == 46)

abbrev pub IsAgencyByte : ℕ → Type 0
IsAgencyByte byte = IsAsciiAlphanumeric byte ⊎ ((byte ≡ 45) ⊎ (byte ≡ 46))
