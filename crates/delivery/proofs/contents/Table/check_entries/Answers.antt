use Rattle.std.proofs.Common.{◌≡◌, true, false, sym, ap, ◌∙◌, rules}
use Rattle.std.specs.Option.{option_map}
use Rattle.std.proofs.lemmas.Iterator.{first_from_Range}
use Rattle.promise.specs.First.{first_below}
use Rattle.delivery.specs.Opened.{unless_refused}
use Rattle.delivery.specs.Opening.{bad_entry}
use Rattle.delivery.specs.declared.refusals.DeliveryRefusal.TheVariants.{BadEntry}
use Rattle.delivery.proofs.Found.{found_first}
use Rattle.delivery.proofs.contents.Table.check_entries.Goals as goal
use Rattle.delivery.proofs.contents.Table.check_entries.Goals.{After-find}

first_bad : (c : After-find) → c.find.result ≡ first_below (bad_entry c.args.self.now.bytes.now) c.args.self.now.count
first_bad c =
    let bad = bad_entry c.args.self.now.bytes.now in
    found_first bad _ _ (first_from_Range _ _ _ _ (λ i. bad i ≡ true) (λ i. bad i ≡ false) c.find.ensures.ran (λ x q k. search rules) (λ x q k. (search rules, search rules)))

pub returns-in-Some : goal.returns-in-Some
returns-in-Some c = ap (λ found. unless_refused tt (option_map BadEntry found)) (sym c.in-Some.is ∙ first_bad (goal.at.returns-in-Some c).After-find)

pub returns-in-None : goal.returns-in-None
returns-in-None c = ap (λ found. unless_refused tt (option_map BadEntry found)) (sym c.in-None.is ∙ first_bad (goal.at.returns-in-None c).After-find)
