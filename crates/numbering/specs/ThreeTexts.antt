-- Reading from three texts: what they say together, or the first of them that is at fault. Assumes nothing.
use Rattle.std.specs.Prelude.{ℕ, ◌<◌, Some, None, Err, Option, Result}
use Rattle.std.specs.Option.{ok_or}
use Rattle.promise.specs.Reasons.{FirstThatApplies}
use Rattle.territory.specs.declared.numberings.NumberingText.{NumberingText}
use Rattle.territory.specs.declared.numberings.NumberingText.TheVariants.{First, Second, Third}

-- what the first and the second text say, and what they make with the third
abbrev pub read_three : {A B S : Type 0} → Option A → Option B → (A → B → Option S) → Result S NumberingText
read_three None second made = Err First
read_three (Some a) None made = Err Second
read_three (Some a) (Some b) made = ok_or (made a b) Third

abbrev pub text_number : NumberingText → ℕ
text_number First = 1
text_number Second = 2
text_number Third = 3

abbrev pub Earlier : NumberingText → NumberingText → Type 0
Earlier s t = text_number s < text_number t

abbrev pub SaysNothing : {V : Type 0} → (V → Type 0) → Type 0
SaysNothing {V} Says = (v : V) → Says v → ⊥

module _ {A B S : Type 0} (FirstSays : A → Type 0) (SecondSays : B → Type 0) (AllSay : S → Type 0) where
  -- the first or the second is at fault where it says nothing, the third where the three together say nothing
  abbrev pub AtFault : NumberingText → Type 0
  AtFault First = SaysNothing FirstSays
  AtFault Second = SaysNothing SecondSays
  AtFault Third = SaysNothing AllSay

  abbrev pub FirstAtFault : Option NumberingText → Type 0
  FirstAtFault fault = FirstThatApplies AtFault Earlier fault
