-- What the tests on bytes tell.
use Rattle.std.proofs.Common.{◌≡◌, ℕ, Bool, List, Decides, refl, arith}
use Rattle.std.specs.List.{All, list_all}
use Rattle.std.proofs.lemmas.Slice.Eq.{bytes_eq-Decides}
use Rattle.std.proofs.lemmas.Bool.Decides.{Decides-by_and, nat_tests}
use Rattle.text.specs.Bytes.{IsAgencyByte, IsLocalByte, IsPrintableByte, is_agency_byte, is_local_byte, is_printable_byte, same_bytes}

pub same_bytes_decides : (xs ys : List ℕ) → Decides (same_bytes xs ys) (xs ≡ ys)
unfolding same_bytes
same_bytes_decides = bytes_eq-Decides

all_decides : (test : ℕ → Bool) (P : ℕ → Type 0) → ((byte : ℕ) → Decides (test byte) (P byte))
    → (text : List ℕ) → Decides (list_all test text) (All P text)
all_decides test P each = Decides-by_and test P (list_all test) each refl (λ _ _. refl)

pub printable_decides : (text : List ℕ) → Decides (list_all is_printable_byte text) (All IsPrintableByte text)
printable_decides = all_decides _ IsPrintableByte (λ byte. grind (arith, nat_tests))

pub local_decides : (text : List ℕ) → Decides (list_all is_local_byte text) (All IsLocalByte text)
local_decides = all_decides _ IsLocalByte (λ byte. grind (arith, nat_tests))

pub agency_decides : (text : List ℕ) → Decides (list_all is_agency_byte text) (All IsAgencyByte text)
agency_decides = all_decides _ IsAgencyByte (λ byte. grind (arith, nat_tests))
