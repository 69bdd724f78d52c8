-- What is written of a lot reads back. Assumes nothing.
use Rattle.std.specs.Prelude.{◌≡◌, ℕ, ◌+◌, ◌-◌, ◌%◌, ◌≤◌, List, Some}
use Rattle.std.proofs.Common.{ap, arith}
use Rattle.std.proofs.lemmas.Bool.{le-leb}
use Rattle.std.proofs.lemmas.Bool.Decides.{nat_tests}
use Rattle.lots.specs.Lots.{lot, lot_of, written_lot}
use Rattle.lots.specs.declared.Lot.{Lot}

pub one_digit : (text : List ℕ) (p : Lot) → lot_of text ≡ Some p → p.number ≤ 9
one_digit text p e = grind (arith, nat_tests)

pub back : (p : Lot) → p.number ≤ 9 → lot_of (written_lot p) ≡ Some p
back p small =
    let low = le-leb 48 (48 + p.number % 10) (omega arith) in
    let high = le-leb (48 + p.number % 10) 57 (omega arith) in
    let digit : 48 + p.number % 10 - 48 ≡ p.number = omega arith in
    rw (low, high) (ap (λ n. Some (lot n)) digit)
