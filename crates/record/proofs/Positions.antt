-- Positions in a list: where none passes a test, none of any number does; and a list whose elements have their numbers beside them. Assumes nothing.
use Rattle.std.proofs.Common.{◌≡◌, ℕ, ◌+◌, ◌<◌, ◌≤◌, Bool, false, cond, not, List, [], ◌∷◌, length, get_or, Some, None, sym, refl, ap, ◌∙◌, arith}
use Rattle.std.specs.List.{enumerate_from, position, position_or_len, prefix_len}
use Rattle.std.proofs.lemmas.Bool.{ltb-false, not-true}
use Rattle.std.proofs.lemmas.List.{get_or_default}
use Rattle.std.proofs.lemmas.List.FromFn.{length-enumerate_from, get_or-enumerate_from}
use Rattle.std.proofs.lemmas.List.Sums.{prefix_len_passes}

pub none_left : {A : Type 0} (b : Bool) (y : A) → cond b (Some y) None ≡ None → b ≡ false
none_left b y h = grind arith

pub none_passes : {X : Type 0} (p : X → Bool) (d : X) (xs : List X) → position p xs ≡ None → (j : ℕ) → j < length xs → p (get_or xs j d) ≡ false
none_passes p d xs none j h =
    let past : length xs ≤ position_or_len p xs = ltb-false _ _ (none_left _ _ none) in
    not-true _ (prefix_len_passes (λ x. not (p x)) xs j d (omega arith))

numbered_prefix : {X : Type 0} (p : X → Bool) (n : ℕ) (xs : List X) → prefix_len (λ (x : ℕ × X). p x.1) (enumerate_from n xs) ≡ prefix_len p xs
numbered_prefix p n [] = refl
numbered_prefix p n (x ∷ xs) = ap (λ k. cond (p x) (1 + k) 0) (numbered_prefix p (n + 1) xs)

-- a test that leaves the number aside
pub position_numbered : {X : Type 0} (p : X → Bool) (xs : List X) → position (λ (x : ℕ × X). p x.1) (enumerate_from 0 xs) ≡ position p xs
position_numbered p xs = rw (numbered_prefix (λ x. not (p x)) 0 xs, length-enumerate_from 0 xs) refl

-- what is paired with a number stands there
pub numbered_at : {X : Type 0} (xs : List X) (d : X) (k i : ℕ) (x : X) → k < length (enumerate_from 0 xs) → (i, x) ≡ get_or (enumerate_from 0 xs) k (i, x) → (i < length xs) × (x ≡ get_or xs i d)
numbered_at xs d k i x below e =
    let inside : k < length xs = omega (arith, length-enumerate_from 0 xs) in
    let pair = e ∙ get_or-enumerate_from 0 xs k (i, x) inside in
    let same : i ≡ k = omega (arith, ap (λ (p : ℕ × _). p.0) pair) in
    (omega arith, ap (λ (p : ℕ × _). p.1) pair ∙ get_or_default xs k x d inside ∙ ap (λ n. get_or xs n d) (sym same))
