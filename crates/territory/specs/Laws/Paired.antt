-- A pair of two territories is a territory. Assumes nothing.
use Rattle.std.specs.Prelude.{◌≡◌, Bool, ◌&&◌, Some, None, Option, ◌≢◌, refl}
use Rattle.std.proofs.Common.{ap}
use Rattle.std.proofs.lemmas.Bool.{and_parts, and_from}
use Rattle.territory.specs.Meaning.{Equivalence, Lawful}
use Rattle.territory.specs.Pairs.{both_told}
use Rattle.territory.specs.declared.pairs.Pair.{Pair}

module _ {S P : Type 0} {holds : S → P → Bool} {same : P → P → Bool} {common : S → S → Option P} (l : Lawful holds same common)
    {S' P' : Type 0} {holds' : S' → P' → Bool} {same' : P' → P' → Bool} {common' : S' → S' → Option P'} (l' : Lawful holds' same' common') where
  unfoldable pub both_same : P × P' → P × P' → Bool
  both_same p q = same p.0 q.0 && same' p.1 q.1

  pair_same : Equivalence both_same
  unfolding both_same
  pair_same =
      let e = l.equivalence in
      let e' = l'.equivalence in
      record {
        itself = λ a. and_from _ _ (e.itself a.0) (e'.itself a.1);
        either_way = λ a b h. let k = and_parts _ _ h in and_from _ _ (e.either_way _ _ k.0) (e'.either_way _ _ k.1);
        through = λ a b c h k. let i = and_parts _ _ h in let j = and_parts _ _ k in and_from _ _ (e.through _ _ _ i.0 j.0) (e'.through _ _ _ i.1 j.1);
      }

  told : (a : Option P) (b : Option P') (p : P × P') → both_told a b ≡ Some p → (a ≡ Some p.0) × (b ≡ Some p.1)
  told None b p e = cc
  told (Some x) None p e = cc
  told (Some x) (Some y) p e = let q : (x, y) ≡ p = cc in (ap (λ r. Some r.0) q, ap (λ r. Some r.1) q)

  untold : (a : Option P) (b : Option P') → both_told a b ≡ None → (a ≢ None) → b ≡ None
  untold None b e none = absurd (none refl)
  untold (Some x) None e none = refl
  untold (Some x) (Some y) e none = cc

  pub pair_lawful : Lawful (λ (s : Pair S S') (p : P × P'). holds s.first p.0 && holds' s.second p.1) both_same (λ s t. both_told (common s.first t.first) (common' s.second t.second))
  unfolding both_same
  pair_lawful = record {
    equivalence = pair_same;
    alike = λ t p q h. let k = and_parts _ _ h in let i = l.alike t.first _ _ k.0 in let j = l'.alike t.second _ _ k.1 in cc;
    met = λ t u p e.
        let k = told _ _ p e in
        let i = l.met _ _ _ k.0 in
        let j = l'.met _ _ _ k.1 in
        (and_from _ _ i.0 j.0, and_from _ _ i.1 j.1);
    apart = λ t u p e h k.
        let i = and_parts _ _ h in
        let j = and_parts _ _ k in
        l'.apart _ _ p.1 (untold _ _ e (λ none. l.apart _ _ p.0 none i.0 j.0)) i.1 j.1;
  }
