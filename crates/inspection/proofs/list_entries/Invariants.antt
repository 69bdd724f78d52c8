use Rattle.std.proofs.Common.{◌≡◌, ◌++◌, string_bytes}
use Rattle.std.specs.List.{flat_map, enumerate_from}
use Rattle.delivery.specs.Opened.{contents, entries_left}
use Rattle.inspection.specs.Listing.{entry_lines}
use Rattle.inspection.proofs.Lines.{numbered_line}
use Rattle.inspection.proofs.list_entries.Given as goal

-- with the lines of the entries that are left, the text is whole
abbrev pub invariant-loop-number : goal.invariant-loop-number
invariant-loop-number l =
    string_bytes l.text ++ flat_map numbered_line (enumerate_from l.number-iterator.count (entries_left l.number-iterator.iter)) ≡ entry_lines (contents l.delivery)
