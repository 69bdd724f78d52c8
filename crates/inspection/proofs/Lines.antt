-- The lines of the entries that are given, numbered from 0, are the lines of the numbers. Assumes nothing.
use Rattle.std.proofs.Common.{◌≡◌, ℕ, zero, suc, ◌+◌, ◌-◌, ◌<◌, ◌≤◌, true, List, ◌++◌, is_some, Some, None, Option, refl, ap, ◌∙◌, arith}
use Rattle.std.proofs.lemmas.Bool.{false≢true}
use Rattle.std.specs.List.{flat_map, filter_map, enumerate_from, range_with_len}
use Rattle.delivery.specs.Opened.{Contents, contents, entry_at, entries_from}
use Rattle.delivery.specs.declared.deliveries.Delivery.{Delivery}
use Rattle.delivery.specs.declared.entries.Entry.{Entry}
use Rattle.delivery.proofs.Listed.{delivered}
use Rattle.inspection.specs.Listing.{entry_line, given_line, entry_lines}

abbrev pub numbered_line : ℕ × Entry → List ℕ
numbered_line p = entry_line p.0 p.1

module _ (c : Contents) where
  -- the lines of the numbers from n on, so many, and of the entries that they give
  of_numbers : ℕ → ℕ → List ℕ
  of_numbers n k = flat_map (λ number. given_line number (entry_at c number)) (range_with_len n k)

  of_entries : ℕ → ℕ → List ℕ
  of_entries n k = flat_map numbered_line (enumerate_from n (filter_map (entry_at c) (range_with_len n k)))

  one_more : (n k : ℕ) (entry : Option Entry) → entry_at c n ≡ entry → is_some entry ≡ true → of_entries (n + 1) k ≡ of_numbers (n + 1) k → of_entries n (suc k) ≡ of_numbers n (suc k)
  unfolding of_entries of_numbers
  one_more n k None e given rest = absurd (false≢true given)
  one_more n k (Some entry) e given rest = rw e (ap (λ lines. entry_line n entry ++ lines) rest)

  lines_alike : (n k : ℕ) → ((i : ℕ) → n ≤ i → i < n + k → is_some (entry_at c i) ≡ true) → of_entries n k ≡ of_numbers n k
  unfolding of_entries of_numbers
  lines_alike n zero given = refl
  lines_alike n (suc k) given = one_more n k _ refl (given n (omega arith) (omega arith)) (lines_alike (n + 1) k (λ i from below. given i (omega arith) (omega arith)))

pub lines_of_entries : (d : Delivery) → flat_map numbered_line (enumerate_from 0 (entries_from (contents d) 0)) ≡ entry_lines (contents d)
unfolding of_entries of_numbers
lines_of_entries d =
    let whole : d.table.count - 0 ≡ d.table.count = omega arith in
    ap (of_entries (contents d) 0) whole ∙ lines_alike (contents d) 0 d.table.count (λ i from below. (delivered d).entries i (omega arith))
