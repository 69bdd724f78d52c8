-- Reading from three texts answers exactly what they say, or the first of them at fault. Assumes nothing.
use Rattle.std.specs.Prelude.{◌≡◌, Some, None, Option, refl}
use Rattle.std.proofs.Common.{sym, ◌∙◌, arith}
use Rattle.std.specs.Option.{ok_or}
use Rattle.std.specs.Result.{result_err, result_ok}
use Rattle.promise.specs.Exactly.{Exactly}
use Rattle.promise.specs.Reasons.{FirstThatApplies}
use Rattle.promise.proofs.Reasons.{refused_first, refused_none}
use Rattle.territory.specs.declared.numberings.NumberingText.{NumberingText}
use Rattle.territory.specs.declared.numberings.NumberingText.TheVariants.{First, Second, Third}
use Rattle.text.proofs.Inversions.{none_some}
use Rattle.numbering.specs.ThreeTexts.{AtFault, Earlier, FirstAtFault, read_three}

-- what was answered, step by step
apart : {A B S : Type 0} (first : Option A) (second : Option B) (made : A → B → Option S) (s : S) → result_ok (read_three first second made) ≡ Some s
    → (a : A) × (b : B) × (first ≡ Some a) × (second ≡ Some b) × (made a b ≡ Some s)
apart None second made s e = none_some s e
apart (Some a) None made s e = none_some s e
apart {S = S} (Some a) (Some b) made s e = (a, b, refl, refl, same (made a b) e)
  where
    same : (answer : Option S) → result_ok (ok_or answer Third) ≡ Some s → answer ≡ Some s
    same None e = none_some s e
    same (Some t) e = e

module _ {A B S : Type 0} {FirstSays : A → Type 0} {SecondSays : B → Type 0} {AllSay : S → Type 0}
    (first : Option A) (second : Option B) (made : A → B → Option S)
    (first_read : Exactly FirstSays first) (second_read : Exactly SecondSays second)
    (joins : (a : A) (b : B) (s : S) → FirstSays a → SecondSays b → made a b ≡ Some s → AllSay s)
    (splits : (s : S) → AllSay s → (a : A) × (b : B) × FirstSays a × SecondSays b × (made a b ≡ Some s)) where
  three_exactly : Exactly AllSay (result_ok (read_three first second made))
  three_exactly = record {
    sound = λ s e. let p = apart first second made s e in
        joins p.0 p.1 s (first_read.sound p.0 p.2) (second_read.sound p.1 p.3) p.4;
    complete = λ s says. let p = splits s says in
        rw (first_read.complete p.0 p.2, second_read.complete p.1 p.3, p.4) refl;
  }

  abbrev Fault : NumberingText → Type 0
  Fault = AtFault FirstSays SecondSays AllSay

  abbrev NoneBefore : NumberingText → NumberingText → Type 0
  NoneBefore told text = Fault text → Earlier text told → ⊥

  by_made : (a : A) (b : B) → first ≡ Some a → second ≡ Some b → (answer : Option S) → made a b ≡ answer → FirstThatApplies Fault Earlier (result_err (ok_or answer Third))
  by_made a b is_first is_second None e =
      refused_first Fault Earlier Third (λ s says. none_some s (rw (is_first, is_second, e) at (three_exactly.complete s says)))
      (λ t. elim t as (NoneBefore Third) [
        | First ↦ λ fault _. fault a (first_read.sound a is_first)
        | Second ↦ λ fault _. fault b (second_read.sound b is_second)
        | Third ↦ λ _ earlier. omega arith
      ])
  by_made a b is_first is_second (Some s) e =
      refused_none Fault Earlier
      (λ t. elim t as (λ t. Fault t → ⊥) [
        | First ↦ λ fault. fault a (first_read.sound a is_first)
        | Second ↦ λ fault. fault b (second_read.sound b is_second)
        | Third ↦ λ fault. fault s (joins a b s (first_read.sound a is_first) (second_read.sound b is_second) e)
      ])

  by_second : (a : A) → first ≡ Some a → (answer : Option B) → second ≡ answer → FirstThatApplies Fault Earlier (result_err (read_three (Some a) answer made))
  by_second a is None e =
      refused_first Fault Earlier Second (λ b says. none_some b (sym e ∙ second_read.complete b says))
      (λ t. elim t as (NoneBefore Second) [
        | First ↦ λ fault _. fault a (first_read.sound a is)
        | Second ↦ λ _ earlier. omega arith
        | Third ↦ λ _ earlier. omega arith
      ])
  by_second a is (Some b) e = by_made a b is e (made a b) refl

  by_first : (answer : Option A) → first ≡ answer → FirstThatApplies Fault Earlier (result_err (read_three answer second made))
  by_first None e =
      refused_first Fault Earlier First (λ a says. none_some a (sym e ∙ first_read.complete a says))
      (λ t. elim t as (NoneBefore First) [
        | First ↦ λ _ earlier. omega arith
        | Second ↦ λ _ earlier. omega arith
        | Third ↦ λ _ earlier. omega arith
      ])
  by_first (Some a) e = by_second a e second refl

  pub three_told : Exactly AllSay (result_ok (read_three first second made)) × FirstAtFault FirstSays SecondSays AllSay (result_err (read_three first second made))
  three_told = (three_exactly, by_first first refl)
