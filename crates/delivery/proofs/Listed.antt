-- The entries that a delivery still has to give: how many there may be, and with which they begin. Assumes nothing.
use Rattle.std.proofs.Common.{◌≡◌, ℕ, suc, ◌+◌, ◌-◌, ◌<◌, ◌≤◌, false, List, [], ◌∷◌, length, is_some, Some, None, Option, sym, ap, ◌∙◌, arith}
use Rattle.std.proofs.lemmas.Bool.{true≢false}
use Rattle.std.proofs.lemmas.Bool.Decides.{nat_tests}
use Rattle.std.proofs.lemmas.List.FromFn.{length-range_with_len}
use Rattle.std.specs.List.{filter_map, cons_option, range_with_len}
use Rattle.delivery.specs.Contents.{entry_count}
use Rattle.delivery.specs.Opened.{contents, entry_at, entries_from, GivesAll}
use Rattle.delivery.specs.Opening.{no_table, most_entries}
use Rattle.delivery.specs.declared.deliveries.Delivery.{Delivery}
use Rattle.delivery.proofs.Refused.{gives_all}

length-cons_option-le : {Y : Type 0} (given : Option Y) (ys : List Y) → length (cons_option given ys) ≤ length ys + 1
length-cons_option-le None ys = omega arith
length-cons_option-le (Some y) ys = omega arith

length-filter_map-le : {X Y : Type 0} (given : X → Option Y) (xs : List X) → length (filter_map given xs) ≤ length xs
length-filter_map-le given [] = omega arith
length-filter_map-le given (x ∷ xs) = omega (arith, length-cons_option-le (given x) (filter_map given xs), length-filter_map-le given xs)

few_counted : (bytes : List ℕ) → no_table bytes ≡ false → entry_count bytes ≤ most_entries
few_counted bytes table = grind (arith, nat_tests)

pub few_entries : (d : Delivery) → length (entries_from (contents d) 0) ≤ most_entries
few_entries d =
    omega (arith, length-filter_map-le (entry_at (contents d)) (range_with_len 0 (d.table.count - 0)), length-range_with_len 0 (d.table.count - 0), few_counted d.table.bytes.now d.table.present, d.table.listed)

pub delivered : (d : Delivery) → GivesAll (contents d)
delivered d = gives_all d.table.bytes.now d.table.count d.table.listed d.opened

-- the entries left begin with the next one
pub one_left : (d : Delivery) (n : ℕ) → n < d.table.count → entries_from (contents d) n ≡ cons_option (entry_at (contents d) n) (entries_from (contents d) (n + 1))
one_left d n below = let left : d.table.count - n ≡ suc (d.table.count - (n + 1)) = omega arith in ap (λ k. filter_map (entry_at (contents d)) (range_with_len n k)) left

-- the next one is given
pub some_left : (d : Delivery) (n : ℕ) → n < d.table.count → entry_at (contents d) n ≡ None → ⊥
some_left d n below none = true≢false (sym ((delivered d).entries n below) ∙ ap is_some none)
