-- What a total order is. Assumes nothing.
use Rattle.std.specs.Prelude.{◌≡◌, Bool, true, false}

-- of three tests exactly one passes
pub data OneOf : Bool → Bool → Bool → Type 0 where
  only_first : OneOf true false false
  only_second : OneOf false true false
  only_third : OneOf false false true

pub record Total {B : Type 0} (before level : B → B → Bool) : Type 0 where
  -- of two values exactly one comes before, or they are the same
  pub one : (a b : B) → OneOf (before a b) (level a b) (before b a)
  -- before carries over a third
  pub carries : (a b c : B) → before a b ≡ true → before b c ≡ true → before a c ≡ true
  -- same values stand for each other
  pub stands : (a b c : B) → level a b ≡ true → (before a c ≡ before b c) × (before c a ≡ before c b)
