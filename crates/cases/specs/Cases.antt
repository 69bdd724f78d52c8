-- Worked cases of the definitions that the code's promises cite. Assumes nothing.
use Rattle.std.specs.Prelude.{◌≡◌, ℕ, true, false, List, [], ◌∷◌, ℤ, pos, neg_ℤ, Some, None, Ok, Err, codes, Result}
use Prim.Native.String.{String}
use Rattle.territory.specs.Stretches.{meeting}
use Rattle.territory.specs.declared.numberings.NumberingText.{NumberingText}
use Rattle.territory.specs.declared.numberings.NumberingText.TheVariants.{Third}
use Rattle.numbering.specs.Least.{least_shared}
use Rattle.numbering.specs.Marks.{marks_hold, marks_past, marks_reading}
use Rattle.numbering.specs.Places.{address}
use Rattle.numbering.specs.Ranges.{range_holds, range_past, range_reading}
use Rattle.instant.specs.Instants.{instant_before}
use Rattle.instant.specs.Reading.{instant_in}
use Rattle.instant.specs.declared.date_time.Instant.{Instant}

-- the three texts of a range or of marks
pub record Texts : Type 0 where
  pub first : String
  pub second : String
  pub third : String

abbrev pub texts : String → String → String → Texts
texts first second third = record { first = first; second = second; third = third }

pub data Case : Type 0 where
  -- a dateTime text, and the tenths of a second from 1970 that it tells
  tells : String → ℤ → Case
  tells_nothing : String → Case
  -- lifetimes that only touch do not meet
  touching_apart : Case
  -- a range, and a number that it holds or not
  holds : Texts → ℕ → Case
  lacks : Texts → ℕ → Case
  holds_nothing : Texts → Case
  -- texts of a range, and the first of them at fault
  fails : Texts → NumberingText → Case
  -- two ranges or two marks, and the number at which they meet
  ranges_meet : Texts → Texts → ℕ → Case
  ranges_apart : Texts → Texts → Case
  marks_meet : Texts → Texts → ℕ → Case

module _ {S : Type 0} (reading : List ℕ → List ℕ → List ℕ → Result S NumberingText) where
  abbrev pub read : Texts → Result S NumberingText
  read t = reading (codes t.first) (codes t.second) (codes t.third)

  -- the texts say something of which the fact holds
  abbrev pub Of : Texts → (S → Type 0) → Type 0
  Of t Fact = (s : S) × (read t ≡ Ok s) × Fact s

abbrev pub Told : Case → Type 0
Told (tells text tenths) = instant_in (codes text) ≡ Some (record { tenths = tenths })
Told (tells_nothing text) = instant_in (codes text) ≡ None
Told touching_apart =
    (first touch end : Instant)
    → (meeting instant_before first touch touch end ≡ None) × (meeting instant_before touch end first touch ≡ None)
Told (holds range n) = Of range_reading range (λ r. range_holds r n ≡ true)
Told (lacks range n) = Of range_reading range (λ r. range_holds r n ≡ false)
Told (holds_nothing range) = Of range_reading range (λ r. (n : ℕ) → range_holds r n ≡ false)
Told (fails range fault) = read range_reading range ≡ Err fault
Told (ranges_meet range other n) =
    Of range_reading range (λ r. Of range_reading other (λ s. least_shared range_holds range_past r s ≡ Some (address n)))
Told (ranges_apart range other) =
    Of range_reading range (λ r. Of range_reading other (λ s. least_shared range_holds range_past r s ≡ None))
Told (marks_meet marks other n) =
    Of marks_reading marks (λ m. Of marks_reading other (λ k. least_shared marks_hold marks_past m k ≡ Some (address n)))

abbrev pub cases : List Case
cases =
    tells "2020-01-28T15:47:09.3-06:00" (pos 15802480293)
    ∷ tells "1969-12-31T23:59:59.9Z" (neg_ℤ (pos 1))
    ∷ tells_nothing "2100-02-29T00:00:00Z"
    ∷ tells_nothing "2020-01-28T15:47.09.3-06:00"
    ∷ touching_apart
    ∷ holds (texts "198" "100" "E") 100
    ∷ holds (texts "198" "100" "E") 198
    ∷ lacks (texts "198" "100" "E") 99
    ∷ lacks (texts "198" "100" "E") 199
    ∷ ranges_meet (texts "100" "198" "E") (texts "198" "298" "E") 198
    ∷ ranges_apart (texts "100" "198" "E") (texts "101" "199" "O")
    ∷ fails (texts "0" "0" "E") Third
    ∷ holds_nothing (texts "0" "0" "Z")
    ∷ marks_meet (texts "100" "0000000000000005" "") (texts "101" "0000000000000003" "") 102
    ∷ []
