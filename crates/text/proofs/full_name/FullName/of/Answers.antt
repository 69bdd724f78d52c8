use Rattle.std.proofs.Common.{◌≡◌, is_some, sym, refl, ap, ◌∙◌}
use Rattle.std.specs.Option.{option_map}
use Rattle.std.proofs.lemmas.List.{take_all}
use Rattle.text.specs.FullNames.{full_name, name_of, texts_of}
use Rattle.text.proofs.JoinLaws.{joins, some_within, stopped, whole}
use Rattle.text.proofs.full_name.FullName.of.Goals as goal

pub returns-in_err-ok : goal.returns-in_err-ok
returns-in_err-ok c =
    let past = sym (ap is_some c.in_err-ok.was) ∙ (c.ok.ensures.variant ∙ c.push.ensures.fits) in
    let named : option_map name_of c.from_residual.result ≡ full_name (texts_of c.args.elements.now) =
    rw c.from_residual.ensures (stopped _ _ _ c.loop-element-test.true (rw c.loop-element.invariant at past)) in
    record { name = named; fits = some_within _ _ named; joins = joins }

pub returns : goal.returns
returns c =
    let all = take_all c.loop-element.element-index c.args.elements.now c.loop-element-test.false in
    record {
      name = whole _ _ (c.loop-element.invariant ∙ rw all refl) c.loop-element.name.within;
      fits = λ _. refl;
      joins = joins;
    }
