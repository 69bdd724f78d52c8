use Rattle.std.proofs.Common.{◌≡◌, arith, rules}
use Rattle.std.proofs.lemmas.Iterator.{YieldsList-from_slice, YieldsList-from_zip}
use Rattle.std.proofs.lemmas.Iterator.Search.{all_from_yields_List}
use Rattle.std.proofs.lemmas.Bool.Decides.{nat_tests}
use Rattle.std.specs.List.{list_all, zip}
use Rattle.instant.specs.Form.{fits}
use Rattle.instant.proofs.Shapes.{form_by_bytes}
use Rattle.instant.proofs.form.has_form.Goals as goal

pub returns-then-form-text-clause-meaning : goal.returns-then-form-text-clause-meaning
returns-then-form-text-clause-meaning c =
    let fit : c.all.result ≡ list_all (λ p. fits p.0 p.1) (zip c.args.form.now c.args.text.now) =
    all_from_yields_List (λ p. fits p.0 p.1) c.all.new.self _ _ c.all.ensures.ran (YieldsList-from_zip (YieldsList-from_slice c.args.form.now cc) (YieldsList-from_slice c.args.text.now cc)) (λ x b q k. search rules) in
    grind (arith, nat_tests, form_by_bytes)
