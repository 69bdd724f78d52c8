-- The marks on the bytes of a span. Assumes nothing.
use Rattle.std.proofs.Common.{◌≡◌, ℕ, ◌+◌, ◌-◌, ◌<◌, ◌≤◌, Bool, true, false, not, List, length, get_or, replicate, Decides, sym, refl, ap, ◌∙◌, ⊎_elim, arith, rules, length-drop}
use lib.ListN.{length-replicate, length-take}
use mathlib.Core.Bool.{beq}
use Rattle.std.specs.List.{IsAnyAnswer, between}
use Rattle.std.proofs.lemmas.List.{get_or-replicate, get_or_past, places}
use Rattle.std.proofs.lemmas.Bool.{true≢false, false≢true, cases_lt, lt-ltb, le-ltb}
use borrow.Rule.Slice.PartMut.{put_mid}
use Rattle.std.proofs.lemmas.List.Edits.{get_or-between, length-between}
use Rattle.delivery.specs.Taken.{Free, taken_also}

pub none_taken : (n b : ℕ) → get_or (replicate n false) b false ≡ false
none_taken n b =
    ⊎_elim
    (λ within. get_or-replicate n b false false within)
    (λ past. get_or_past (replicate n false) b false (simp length-replicate past))
    (cases_lt b n)

untaken : (mark : Bool) → beq mark true ≡ false → mark ≡ false
untaken true e = absurd (true≢false e)
untaken false e = refl

taken : (mark : Bool) → beq mark true ≡ true → mark ≡ true
taken true e = refl
taken false e = absurd (false≢true e)

module _ (marks : List Bool) (first end : ℕ) where
  pub free_decides : (some : Bool) → IsAnyAnswer (λ mark b. beq mark true ≡ b) (between first end marks) some → Decides (not some) (Free marks first end)
  free_decides true found =
      let below : first + found.0 < end = omega (arith, simp length-take at found.1) in
      let same = get_or-between marks first end found.0 false below in
      (λ h. absurd (false≢true h), λ free. absurd (true≢false (sym (taken _ (found.2 false)) ∙ same ∙ free _ (omega arith) below)))
  free_decides false none = (
    λ _ b from below.
        let at : first + (b - first) ≡ b = omega arith in
        ⊎_elim
        (λ (within : b < length marks). ap (λ k. get_or marks k false) (sym at) ∙ sym (get_or-between marks first end (b - first) false (omega arith)) ∙ untaken _ (none (b - first) false (omega arith) (simp (length-take, length-drop) (omega arith))))
        (λ past. get_or_past marks b false past)
        (cases_lt b (length marks)),
    λ _. refl,
  )

  pub taken_by_fill : (ys : List Bool) → first ≤ end → end ≤ length marks → ys ≡ replicate (length (between first end marks)) true → (b : ℕ) → get_or (put_mid first (end - first) marks ys) b false ≡ taken_also marks first end b
  taken_by_fill ys from within full b =
      let size = length-between marks first end within in
      ⊎_elim
      (λ before. let e = lt-ltb b first before in rw (e, full, size) (search (rules, places)))
      (λ after. let e = le-ltb b first after in ⊎_elim
      (λ below. let f = lt-ltb b end below in rw (e, f, full, size) (search (rules, places)))
      (λ past. let f = le-ltb b end past in rw (e, f, full, size) (search (rules, places)))
      (cases_lt b end))
      (cases_lt b first)
