-- The text that tells a person what a delivery lists. Assumes nothing.
use Rattle.std.specs.Prelude.{ℕ, List, [], ◌++◌, Some, None, Ok, Err, codes, decimal, Option, Result}
use Rattle.std.specs.List.{flat_map, range_with_len}
use Rattle.delivery.specs.Opened.{Contents, opening, entry_at}
use Rattle.delivery.specs.Texts.{entry_text, refusal_text}
use Rattle.delivery.specs.declared.entries.Entry.{Entry}
use Rattle.delivery.specs.declared.refusals.DeliveryRefusal.{DeliveryRefusal}

abbrev pub entry_line : ℕ → Entry → List ℕ
entry_line number entry = codes "entry " ++ (decimal number ++ (codes ": " ++ (entry_text entry ++ codes "\n")))

abbrev pub refusal_line : DeliveryRefusal → List ℕ
refusal_line refusal = refusal_text refusal ++ codes "\n"

abbrev pub count_line : ℕ → List ℕ
count_line count = decimal count ++ codes " entries\n"

abbrev pub given_line : ℕ → Option Entry → List ℕ
given_line number None = []
given_line number (Some entry) = entry_line number entry

-- the lines of the entries, in order
abbrev pub entry_lines : Contents → List ℕ
entry_lines contents = flat_map (λ number. given_line number (entry_at contents number)) (range_with_len 0 contents.count)

abbrev pub listing_of : Contents → List ℕ
listing_of contents = entry_lines contents ++ count_line contents.count

abbrev pub answer_of : Result Contents DeliveryRefusal → List ℕ
answer_of (Ok contents) = listing_of contents
answer_of (Err refusal) = refusal_line refusal

abbrev pub inspected : List ℕ → List ℕ
inspected bytes = answer_of (opening bytes)
