use Rattle.std.proofs.Common.{◌≡◌, ℕ, ◌+◌, not, sym, ap, ◌∙◌}
use Rattle.std.proofs.lemmas.Bool.{not-true, not-false}
use Rattle.std.proofs.lemmas.Bool.Decides.{same_from_decides}
use Rattle.std.specs.Option.{option_map}
use Rattle.promise.proofs.Firsts.{first_stops, first_goes}
use Rattle.delivery.specs.Contents.{body_place, body_end}
use Rattle.delivery.specs.Opened.{unless_refused}
use Rattle.delivery.specs.Opening.{shares_earlier}
use Rattle.delivery.specs.declared.contents.Table.{Table}
use Rattle.delivery.specs.declared.refusals.DeliveryRefusal.TheVariants.{SharedByte}
use Rattle.delivery.proofs.Sharing.{one_more_marked, alone_decides}
use Rattle.delivery.proofs.contents.Table.check_sharing.Goals as goal
use Rattle.delivery.proofs.contents.Table.check_sharing.Goals.{After-take}

-- the span is that of the body, and lies where bytes can be taken
abbrev IsBody : Table → ℕ → ℕ → ℕ → Type 0
IsBody table n first end = (first ≡ body_place table.bytes.now n) × (end ≡ body_end table.bytes.now n)

is_body : (c : After-take) → IsBody c.args.self.now c.loop-number.number c.span-span.result.first.at c.span-span.result.end.at
is_body c =
    let place = c.line.ensures.place in
    let length = c.line.ensures.length in
    (c.span-span.ensures.first ∙ place, c.span-span.ensures.end ∙ (λ i. place i + length i))

alone : (c : After-take) → not (shares_earlier c.args.self.now.bytes.now c.loop-number.number) ≡ c.take.result
alone c =
    let is = is_body c in
    same_from_decides _ _ (alone_decides _ _ _ c.loop-number.invariant.marked) (rw (is.0, is.1) at c.take.ensures.free)

pub returns-then-not-take : goal.returns-then-not-take
returns-then-not-take c =
    let shares = not-false _ (alone (goal.at.returns-then-not-take c).After-take ∙ c.if-not-take.true) in
    ap (λ found. unless_refused tt (option_map SharedByte found)) (sym (c.loop-number.invariant.rest ∙ first_stops _ _ _ c.loop-number-test.true shares))

pub loop-number-preserved : goal.loop-number-preserved
loop-number-preserved c =
    let at = (goal.at.loop-number-preserved c).After-take in
    let is = is_body at in
    record {
      rest = c.loop-number.invariant.rest ∙ first_goes _ _ _ c.loop-number-test.true (not-true _ (alone at ∙ c.if-not-take.false));
      marked = one_more_marked _ _ _ _ c.loop-number.invariant.marked (rw (is.0, is.1) at c.take.ensures.taken);
    }
