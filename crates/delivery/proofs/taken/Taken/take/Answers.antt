use Rattle.std.proofs.lemmas.Bool.{ltb-false}
use Rattle.std.proofs.Common.{arith}
use Rattle.delivery.proofs.Taking.{free_decides, taken_by_fill}
use Rattle.delivery.proofs.taken.Taken.take.Goals as goal

pub returns : goal.returns
returns c =
    let full = c.fill.ensures.after (λ _ e. e) in
    record {
      free = free_decides _ _ _ _ (rw (c.first.ensures, c.end.ensures) at c.contains-free.ensures.cases);
      taken = rw (c.first.ensures, c.end.ensures) (taken_by_fill _ _ _ _ (ltb-false _ _ c.args.span.ordered) (omega (arith, c.requires)) (rw (c.first.ensures, c.end.ensures) at full));
    }
