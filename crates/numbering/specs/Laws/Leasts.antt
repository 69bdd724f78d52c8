-- The least shared number is one answer, and tells of a kind all that a territory has to. Assumes nothing.
use Rattle.std.specs.Prelude.{◌≡◌, ℕ, ◌<◌, Bool, true, Some, None, Option, ◌≢◌, refl}
use Rattle.std.proofs.Common.{sym, ap, ◌∙◌, ⊎_elim, arith}
use Rattle.std.proofs.lemmas.Bool.{and_parts, and_from, cases_order, eqb-true, eq-eqb, both_ways}
use Rattle.std.specs.Option.{option_map}
use Rattle.promise.specs.First.{first_below}
use Rattle.promise.proofs.Firsts.{first_found, none_found}
use Rattle.territory.specs.Meaning.{Lawful}
use Rattle.text.specs.declared.address_number.AddressNumber.{AddressNumber}
use Rattle.text.proofs.Inversions.{none_some}
use Rattle.numbering.specs.Least.{both_hold, Least, least_shared}
use Rattle.numbering.specs.Places.{address, same_number}

module _ {S : Type 0} (holds : S → ℕ → Bool) (s t : S) where
  pub some_least : (n : ℕ) → both_hold holds s t n ≡ true → ((m : ℕ) → m < n → both_hold holds s t m ≢ true) → Least holds s t (Some (address n))
  some_least n held none_before = record {
    held = λ p is. let same : n ≡ p.value = cc in rw (sym same) held;
    no_smaller = λ p m is below. let same : n ≡ p.value = cc in none_before m (omega arith);
    none = λ m is. none_some (address n) (sym is);
  }

  pub none_least : ((n : ℕ) → both_hold holds s t n ≢ true) → Least holds s t None
  none_least never = record {
    held = λ p is. none_some p is;
    no_smaller = λ p n is. none_some p is;
    none = λ n _. never n;
  }

-- of one that holds what both hold, the least is the least that they share
pub least_of_shared : {S : Type 0} (holds : S → ℕ → Bool) (s t shared : S)
    → ((n : ℕ) → holds shared n ≡ both_hold holds s t n) → (answer : Option AddressNumber)
    → Least holds shared shared answer → Least holds s t answer
least_of_shared holds s t shared same answer l = record {
  held = λ p is. sym (same p.value) ∙ (and_parts _ _ (l.held p is)).0;
  no_smaller = λ p n is below h. let own = same n ∙ h in l.no_smaller p n is below (and_from _ _ own own);
  none = λ n is h. let own = same n ∙ h in l.none n is (and_from _ _ own own);
}

module _ {S : Type 0} (holds : S → ℕ → Bool) (past : S → ℕ) (bounded : (s : S) (n : ℕ) → holds s n ≡ true → n < past s) where
  told : (s t : S) (answer : Option ℕ) → first_below (both_hold holds s t) (past s) ≡ answer → Least holds s t (option_map address answer)
  told s t None e =
      none_least holds s t
      (λ n h. both_ways _ (none_found (both_hold holds s t) (past s) e n (bounded s n (and_parts _ _ h).0)) h)
  told s t (Some at) e =
      let found = first_found (both_hold holds s t) (past s) at e in
      some_least holds s t at found.passes (λ n below h. both_ways _ (found.none_before n (omega arith) below) h)

  pub least_told : (s t : S) → Least holds s t (least_shared holds past s t)
  least_told s t = told s t (first_below (both_hold holds s t) (past s)) refl

  -- no two answers are the least
  one_least : (s t : S) (a b : Option AddressNumber) → Least holds s t a → Least holds s t b → a ≡ b
  one_least s t None None l m = refl
  one_least s t None (Some q) l m = absurd (l.none q.value refl (m.held q refl))
  one_least s t (Some p) None l m = absurd (m.none p.value refl (l.held p refl))
  one_least s t (Some p) (Some q) l m =
      ⊎_elim
      (λ same. ap (λ n. Some (address n)) same)
      (⊎_elim (λ below. absurd (m.no_smaller q p.value refl below (l.held p refl))) (λ above. absurd (l.no_smaller p q.value refl above (m.held q refl))))
      (cases_order p.value q.value)

  pub least_is : (s t : S) (answer : Option AddressNumber) → Least holds s t answer → answer ≡ least_shared holds past s t
  least_is s t answer l = one_least s t answer (least_shared holds past s t) l (least_told s t)

  pub least_lawful : Lawful (λ s (p : AddressNumber). holds s p.value) same_number (least_shared holds past)
  least_lawful = record {
    equivalence = record {
      itself = λ a. eq-eqb _ _ refl;
      either_way = λ a b h. eq-eqb _ _ (sym (eqb-true _ _ h));
      through = λ a b c h k. eq-eqb _ _ (eqb-true _ _ h ∙ eqb-true _ _ k);
    };
    alike = λ t p q h. ap (holds t) (eqb-true _ _ h);
    met = λ t u p e. and_parts _ _ ((least_told t u).held p e);
    apart = λ t u p e h k. (least_told t u).none p.value e (and_from _ _ h k);
  }
