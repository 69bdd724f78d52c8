-- What the laws of a total order give. Assumes nothing.
use Rattle.std.specs.Prelude.{◌≡◌, Bool, true, false, refl}
use Rattle.std.proofs.Common.{sym, ◌∙◌, ⊎_elim}
use Rattle.std.proofs.lemmas.Bool.{true≢false, false≢true, cases_Bool}
use Rattle.territory.specs.Order.{OneOf, only_first, only_second, only_third, Total}
use Rattle.territory.specs.Meaning.{Equivalence}

-- the test that passes rules the other two out
by_first : {x y z : Bool} → OneOf x y z → x ≡ true → z ≡ false
by_first only_first e = refl
by_first only_second e = refl
by_first only_third e = absurd (false≢true e)

by_second : {x y z : Bool} → OneOf x y z → y ≡ true → (x ≡ false) × (z ≡ false)
by_second only_first e = absurd (false≢true e)
by_second only_second e = (refl, refl)
by_second only_third e = absurd (false≢true e)

by_neither : {x y z : Bool} → OneOf x y z → x ≡ false → z ≡ false → y ≡ true
by_neither only_first e f = absurd (true≢false e)
by_neither only_second e f = refl
by_neither only_third e f = absurd (true≢false f)

by_both : {x y z : Bool} → OneOf x y z → x ≡ z → x ≡ false
by_both only_first e = absurd (true≢false e)
by_both only_second e = refl
by_both only_third e = refl

module _ {B : Type 0} {before level : B → B → Bool} (o : Total before level) where
  pub never_before_itself : (a : B) → before a a ≡ false
  never_before_itself a = by_both (o.one a a) refl

  pub not_after : (a b : B) → before a b ≡ true → before b a ≡ false
  not_after a b h = by_first (o.one a b) h

  -- b ≤ v and v < e
  pub before_over : (v b e : B) → before v b ≡ false → before v e ≡ true → before b e ≡ true
  before_over v b e from below =
      ⊎_elim
      (λ after. o.carries b v e after below)
      (λ neither. sym (o.stands v b e (by_neither (o.one v b) from neither)).0 ∙ below)
      (cases_Bool (before b v))

  -- v < b and b ≤ e
  pub before_under : (v b e : B) → before v b ≡ true → before e b ≡ false → before v e ≡ true
  before_under v b e below from =
      ⊎_elim
      (λ after. o.carries v b e below after)
      (λ neither. (o.stands e b v (by_neither (o.one e b) from neither)).1 ∙ below)
      (cases_Bool (before b e))

  pub level_equivalence : Equivalence level
  level_equivalence = record {
    itself = λ a. by_neither (o.one a a) (never_before_itself a) (never_before_itself a);
    either_way = λ a b h. let n = by_second (o.one a b) h in by_neither (o.one b a) n.1 n.0;
    through = λ a b c h k.
        let n = by_second (o.one b c) k in
        by_neither (o.one a c) ((o.stands a b c h).0 ∙ n.0) ((o.stands a b c h).1 ∙ n.1);
  }
