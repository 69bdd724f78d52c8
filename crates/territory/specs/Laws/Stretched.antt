-- A stretch over a total order is a territory. Assumes nothing.
use Rattle.std.specs.Prelude.{◌≡◌, Bool, true, false, cond, Some, None, refl}
use Rattle.std.proofs.Common.{sym, ◌∙◌}
use Rattle.std.proofs.lemmas.Bool.{true≢false, and_parts, and_from, not-true, not_from_false, cond_both}
use Rattle.std.proofs.lemmas.Option.{cond_some}
use Rattle.territory.specs.Order.{Total}
use Rattle.territory.specs.Meaning.{Lawful}
use Rattle.territory.specs.Stretches.{lies_within, later, earlier, meeting}
use Rattle.territory.specs.declared.stretches.Stretch.{Stretch}
use Rattle.territory.specs.Laws.Ordered.{never_before_itself, not_after, before_over, before_under, level_equivalence}

module _ {B : Type 0} {before level : B → B → Bool} (o : Total before level) where
  -- the later of two comes before neither
  later_after : (a b : B) → (before (later before a b) a ≡ false) × (before (later before a b) b ≡ false)
  later_after a b =
      cond_both (before a b) b a (λ v. (before v a ≡ false) × (before v b ≡ false))
      (λ h. (not_after o a b h, never_before_itself o b))
      (λ h. (never_before_itself o a, h))

  -- what comes before the earlier of two comes before both
  under_both : (v a b : B) → before v (earlier before a b) ≡ true → (before v a ≡ true) × (before v b ≡ true)
  under_both v a b =
      cond_both (before b a) b a (λ e. before v e ≡ true → (before v a ≡ true) × (before v b ≡ true))
      (λ h k. (o.carries v b a k h, k))
      (λ h k. (k, before_under o v a b k h))

  within : (first end v : B) → before v first ≡ false → before v end ≡ true → lies_within before first end v ≡ true
  within first end v from below = and_from _ _ (not_from_false _ from) below

  bounds : (first end v : B) → lies_within before first end v ≡ true → (before v first ≡ false) × (before v end ≡ true)
  bounds first end v h = let parts = and_parts _ _ h in (not-true _ parts.0, parts.1)

  untold : (b : Bool) (v : B) → cond b (Some v) None ≡ None → b ≡ false
  untold true v e = cc
  untold false v e = refl

  pub stretch_lawful : Lawful (λ (s : Stretch B) v. lies_within before s.first s.end v) level (λ s t. meeting before s.first s.end t.first t.end)
  stretch_lawful = record {
    equivalence = level_equivalence o;
    alike = λ s p q h. let a = (o.stands p q s.first h).0 in let b = (o.stands p q s.end h).0 in cc;
    met = λ s t p e.
        let h = cond_some _ _ p e in
        let firsts = later_after s.first t.first in
        let ends = under_both _ s.end t.end h.0 in
        rw (← h.1) (within _ _ _ firsts.0 ends.0, within _ _ _ firsts.1 ends.1);
    apart = λ s t p e hs ht.
        let a = bounds _ _ p hs in
        let b = bounds _ _ p ht in
        let from = cond_both (before s.first t.first) t.first s.first (λ v. before p v ≡ false) (λ _. b.0) (λ _. a.0) in
        let below = cond_both (before t.end s.end) t.end s.end (λ v. before p v ≡ true) (λ _. b.1) (λ _. a.1) in
        true≢false (sym (before_over o p _ _ from below) ∙ untold _ _ e);
  }
