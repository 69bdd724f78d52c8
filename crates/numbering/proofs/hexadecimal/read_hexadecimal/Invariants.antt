use Rattle.std.proofs.Common.{◌≡◌, ◌^◌, ◌<◌, drop}
use Rattle.numbering.specs.Hexadecimal.{hex_after}
use Rattle.numbering.proofs.hexadecimal.read_hexadecimal.Given as goal

-- what is left completes the number
abbrev pub invariant-loop-byte : goal.invariant-loop-byte
invariant-loop-byte l =
    (hex_after l.number (drop l.byte-index l.text) ≡ hex_after 0 l.text) × (l.number < 16 ^ l.byte-index)
