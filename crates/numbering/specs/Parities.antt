-- Parities: their letters, the numbers that they allow, and the ends that they agree with. Assumes nothing.
use Rattle.std.specs.Prelude.{◌≡◌, ℕ, ◌%◌, Bool, true, false, cond, not, ◌&&◌, List, length, Some, None, codes, Option, ◌==◌, slice_index}
use Rattle.numbering.specs.declared.parities.Parity.{Parity}
use Rattle.numbering.specs.declared.parities.Parity.TheVariants.{Odd, Even, Both, Neither}

abbrev pub letter : Parity → List ℕ
letter Odd = codes "O"
letter Even = codes "E"
letter Both = codes "B"
letter Neither = codes "Z"

abbrev pub allows : Parity → ℕ → Bool
allows Odd n = n % 2 == 1
allows Even n = n % 2 == 0
allows Both n = true
allows Neither n = false

abbrev pub BothZero : ℕ → ℕ → Type 0
BothZero from to = (from ≡ 0) × (to ≡ 0)

-- O wants both ends odd, E both even, and Z stands exactly when both ends are 0
abbrev pub Agrees : Parity → ℕ → ℕ → Type 0
Agrees Odd from to = (from % 2 ≡ 1) × (to % 2 ≡ 1)
Agrees Even from to = (from % 2 ≡ 0) × (to % 2 ≡ 0) × (BothZero from to → ⊥)
Agrees Both from to = BothZero from to → ⊥
Agrees Neither from to = BothZero from to

abbrev pub both_zero : ℕ → ℕ → Bool
both_zero from to = from == 0 && to == 0

abbrev pub agrees : Parity → ℕ → ℕ → Bool
agrees Odd from to = allows Odd from && allows Odd to
agrees Even from to = (allows Even from && allows Even to) && not (both_zero from to)
agrees Both from to = not (both_zero from to)
agrees Neither from to = both_zero from to

-- the parity whose letter the byte is: "O", "E", "B" or "Z"
abbrev pub lettered : ℕ → Option Parity
lettered byte =
    cond (byte == 79) (Some Odd)
    (cond (byte == 69) (Some Even) (cond (byte == 66) (Some Both) (cond (byte == 90) (Some Neither) None)))

abbrev pub parity_of : List ℕ → Option Parity
parity_of text = cond (length text == 1) (lettered (slice_index text 0)) None
