-- What `==` answers of two names. Assumes nothing.
use Rattle.std.proofs.Common.{◌≡◌, true, Decides, subst, arith}
use Rattle.record.specs.declared.field_names.FieldName.{FieldName}
use Rattle.record.specs.declared.field_names.FieldName.TheVariants.{SideText}
use Rattle.record.specs.declared.field_names.Side.TheVariants.{Left, Right}
use Rattle.record.specs.contracts.field_names.FieldNamePartialEq.TheImpl.{eq-value}

one : (a b : FieldName) → eq-value.it a b ≡ true → a ≡ b
one a (SideText Left field) = grind arith
one a (SideText Right field) = grind arith
one a b = grind arith

itself : (a : FieldName) → eq-value.it a a ≡ true
itself a = grind arith

pub equal_decides : (a b : FieldName) → Decides (eq-value.it a b) (a ≡ b)
equal_decides a b = (one a b, λ e. subst (λ x. eq-value.it a x ≡ true) e (itself a))
