-- Each test of the checks decides its rule. Assumes nothing.
use Rattle.std.proofs.Common.{◌≡◌, ℕ, not, ◌⊎◌, List, is_some, Some, Decides, refl, subst, arith}
use Rattle.std.proofs.lemmas.Bool.Decides.{Decides-or, Decides-not, Decides-ltb, Decides-like, nat_tests}
use Rattle.promise.specs.Exactly.{Exactly}
use Rattle.promise.proofs.Decided.{exactly_decides}
use Rattle.promise.proofs.Firsts.{any_decides}
use Rattle.delivery.specs.Kinds.{kind_number, kind_numbered}
use Rattle.delivery.specs.Opening.{no_table, bad_entry, shares_earlier, share_a_byte}
use Rattle.delivery.specs.Rules.{LacksTable, OtherKind, Misplaced, SharesEarlier}
use Rattle.delivery.specs.declared.kinds.Kind.{Kind}
use Rattle.delivery.specs.declared.kinds.Kind.TheVariants.{Road, Alias, Point, RoadRetirement, PointRetirement}
use Rattle.delivery.proofs.Sharing.{in_body_bounds, share_decides}

found_again : (kind : Kind) → kind_numbered (kind_number kind) ≡ Some kind
found_again Road = refl
found_again Alias = refl
found_again Point = refl
found_again RoadRetirement = refl
found_again PointRetirement = refl

kind_exactly : (n : ℕ) → Exactly (λ k. kind_number k ≡ n) (kind_numbered n)
kind_exactly n = record {
  sound = λ k e. grind (arith, nat_tests);
  complete = λ k e. subst (λ m. kind_numbered m ≡ Some k) e (found_again k);
}

-- no kind has the number
pub other_kind : (n : ℕ) → Decides (not (is_some (kind_numbered n))) ((k : Kind) → kind_number k ≡ n → ⊥)
other_kind n = Decides-like _ (λ none k h. none (k, h)) (λ none w. none w.0 w.1) (Decides-not _ (exactly_decides _ _ (kind_exactly n)))

module _ (bytes : List ℕ) where
  pub table_decides : Decides (no_table bytes) (LacksTable bytes)
  table_decides = Decides-or _ _ (Decides-or _ _ (Decides-ltb _ _) (Decides-ltb _ _)) (Decides-or _ _ (Decides-ltb _ _) (Decides-ltb _ _))

  pub bad_decides : (entry : ℕ) → Decides (bad_entry bytes entry) (OtherKind bytes entry ⊎ Misplaced bytes entry)
  bad_decides entry = Decides-or _ _ (other_kind _) (Decides-or _ _ (Decides-ltb _ _) (Decides-ltb _ _))

  pub shares_decides : (entry : ℕ) → Decides (shares_earlier bytes entry) (SharesEarlier bytes entry)
  shares_decides entry =
      Decides-like _
      (λ w. let b = (share_decides bytes entry w.0).0 w.2 in
      (w.0, b.0, w.1, (in_body_bounds bytes b.0 w.0).0 b.2, (in_body_bounds bytes b.0 entry).0 b.1))
      (λ w. (w.0, w.2, (share_decides bytes entry w.0).1 (w.1, (in_body_bounds bytes w.1 entry).1 w.4, (in_body_bounds bytes w.1 w.0).1 w.3)))
      (any_decides (share_a_byte bytes entry) entry)
