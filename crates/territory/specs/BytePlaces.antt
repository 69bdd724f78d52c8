-- Byte places and their order. Assumes nothing.
use Rattle.std.specs.Prelude.{ℕ, Bool, ◌==◌, nat_lt}
use Rattle.territory.specs.declared.byte_places.BytePlace.{BytePlace}

abbrev pub byte_place : ℕ → BytePlace
byte_place at = record { at = at }

abbrev pub place_before : BytePlace → BytePlace → Bool
place_before a b = nat_lt a.at b.at

abbrev pub place_level : BytePlace → BytePlace → Bool
place_level a b = a.at == b.at
