use Rattle.std.proofs.Common.{◌<◌, get_or, sym, ◌∙◌, pow-suc, add-one, arith}
use Rattle.text.proofs.Inversions.{goes, stops}
use Rattle.numbering.specs.Laws.HexLaws.{digit_below, hex_all, hex_more, hex_sized, room}
use Rattle.numbering.proofs.hexadecimal.read_hexadecimal.Goals as goal

pub overflow_mul-number : goal.overflow_mul-number
overflow_mul-number c = omega (arith, room _ _ c.loop-byte.invariant.1 (omega arith))

small : (c : goal.In_ok-number) → c.in_ok-number.field-0 < 16
small c = digit_below (get_or c.args.text.now c.loop-byte.byte-index 0) _ (sym c.in_ok-number.ensures)

pub overflow_add-number : goal.overflow_add-number
overflow_add-number c = omega (arith, room _ _ c.loop-byte.invariant.1 (omega arith), small c)

pub returns-in_err-number : goal.returns-in_err-number
returns-in_err-number c =
    rw c.from_residual.ensures
    (stops _ c.in_err-number.ensures ∙ sym (hex_more _ _ _ c.loop-byte-test.true) ∙ c.loop-byte.invariant.0
    ∙ sym (hex_sized _ c.if-text-ne-DIGIT_COUNT.false))

pub loop-byte-preserved : goal.loop-byte-preserved
loop-byte-preserved c = (
  goes _ c.in_ok-number.ensures ∙ sym (hex_more _ _ _ c.loop-byte-test.true) ∙ c.loop-byte.invariant.0,
  rw (add-one, pow-suc) (omega (arith, small c)),
)

pub returns : goal.returns
returns c =
    sym (hex_all _ _ _ c.loop-byte-test.false) ∙ c.loop-byte.invariant.0 ∙ sym (hex_sized _ c.if-text-ne-DIGIT_COUNT.false)
