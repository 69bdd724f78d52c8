-- A parity is read exactly from its letter, and agrees with the ends that the rules allow.
use Rattle.std.specs.Prelude.{◌≡◌, ℕ, List, [], ◌∷◌, Some, Decides, refl}
use Rattle.std.proofs.Common.{arith}
use Rattle.std.proofs.lemmas.Bool.Decides.{nat_tests}
use Rattle.promise.specs.Exactly.{Exactly}
use Rattle.text.proofs.Inversions.{none_some}
use Rattle.numbering.specs.Parities.{Agrees, agrees, letter, parity_of}
use Rattle.numbering.specs.declared.parities.Parity.{Parity}
use Rattle.numbering.specs.declared.parities.Parity.TheVariants.{Odd, Even, Both, Neither}

pub agrees_decides : (parity : Parity) (from to : ℕ) → Decides (agrees parity from to) (Agrees parity from to)
agrees_decides Odd from to = grind (arith, nat_tests)
agrees_decides Even from to = grind (arith, nat_tests)
agrees_decides Both from to = grind (arith, nat_tests)
agrees_decides Neither from to = grind (arith, nat_tests)

sound : (text : List ℕ) (parity : Parity) → parity_of text ≡ Some parity → text ≡ letter parity
sound [] parity e = none_some parity e
sound (byte ∷ []) parity e = grind (arith, nat_tests)
sound (byte ∷ (next ∷ rest)) parity e = grind (arith, nat_tests)

complete : (parity : Parity) → parity_of (letter parity) ≡ Some parity
complete Odd = refl
complete Even = refl
complete Both = refl
complete Neither = refl

pub parity_exactly : (text : List ℕ) → Exactly (λ parity. text ≡ letter parity) (parity_of text)
parity_exactly text = record { sound = sound text; complete = λ parity is. rw is (complete parity) }
