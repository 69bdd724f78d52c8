-- A body shares a byte with an earlier one exactly when one of its bytes is taken. Assumes nothing.
use Rattle.std.proofs.Common.{◌≡◌, ℕ, ◌+◌, ◌<◌, ◌≤◌, Bool, true, false, not, ◌||◌, List, get_or, is_some, Some, None, Decides, Option, sym, refl, ap, ◌∙◌, arith}
use Rattle.std.proofs.lemmas.Bool.{true≢false, false≢true, false_from_ne_true}
use Rattle.std.proofs.lemmas.Bool.Decides.{nat_tests}
use Rattle.promise.specs.First.{any_below}
use Rattle.promise.proofs.Firsts.{any_decides, any_none, any_more}
use Rattle.territory.specs.BytePlaces.{byte_place, place_before, place_level}
use Rattle.territory.specs.Meaning.{Lawful}
use Rattle.territory.specs.Stretches.{from_to, lies_within, meeting}
use Rattle.territory.specs.declared.byte_places.BytePlace.{BytePlace}
use Rattle.territory.specs.declared.stretches.Stretch.{Stretch}
use Rattle.territory.specs.Laws.Numbered.{by_number}
use Rattle.territory.specs.Laws.Stretched.{stretch_lawful}
use Rattle.delivery.specs.Contents.{body_place, body_end}
use Rattle.delivery.specs.Opening.{share_a_byte, shares_earlier}
use Rattle.delivery.specs.Rules.{InBody}
use Rattle.delivery.specs.Taken.{Free, taken_also}

spans : Lawful (λ (s : Stretch BytePlace) p. lies_within place_before s.first s.end p) place_level (λ s t. meeting place_before s.first s.end t.first t.end)
spans = stretch_lawful (by_number (λ p. p.at))

module _ (bytes : List ℕ) where
  abbrev pub in_body : ℕ → ℕ → Bool
  in_body b entry = lies_within place_before (byte_place (body_place bytes entry)) (byte_place (body_end bytes entry)) (byte_place b)

  pub in_body_bounds : (b entry : ℕ) → Decides (in_body b entry) ((body_place bytes entry ≤ b) × (b < body_end bytes entry))
  in_body_bounds b entry = (λ h. grind (arith, nat_tests), λ h. grind (arith, nat_tests))

  abbrev span : ℕ → Stretch BytePlace
  span entry = from_to (byte_place (body_place bytes entry)) (byte_place (body_end bytes entry))

  by_meeting : (entry other : ℕ) (answer : Option BytePlace) → meeting place_before (byte_place (body_place bytes entry)) (byte_place (body_end bytes entry)) (byte_place (body_place bytes other)) (byte_place (body_end bytes other)) ≡ answer → Decides (is_some answer) ((b : ℕ) × (in_body b entry ≡ true) × (in_body b other ≡ true))
  by_meeting entry other None e = (λ h. absurd (false≢true h), λ w. absurd (spans.apart (span entry) (span other) (byte_place w.0) e w.1 w.2))
  by_meeting entry other (Some p) e = let m = spans.met (span entry) (span other) p e in (λ _. (p.at, m.0, m.1), λ _. refl)

  -- the byte spans of two bodies meet exactly when some byte lies in both
  pub share_decides : (entry other : ℕ) → Decides (share_a_byte bytes entry other) ((b : ℕ) × (in_body b entry ≡ true) × (in_body b other ≡ true))
  share_decides entry other = by_meeting entry other _ refl

  -- a byte is marked exactly when one of the first n bodies has it
  abbrev pub Marked : ℕ → List Bool → Type 0
  Marked n taken = (b : ℕ) → get_or taken b false ≡ any_below (in_body b) n

  -- some earlier body has the byte, where its mark says so
  earlier : (n b : ℕ) → InBody bytes n b → any_below (in_body b) n ≡ true → shares_earlier bytes n ≡ true
  earlier n b own some =
      let w = (any_decides (in_body b) n).0 some in
      (any_decides (share_a_byte bytes n) n).1 (w.0, w.1, (share_decides n w.0).1 (b, (in_body_bounds b n).1 own, w.2))

  -- a body shares no byte exactly when all its bytes are free
  pub alone_decides : (n : ℕ) (taken : List Bool) → Marked n taken → Decides (not (shares_earlier bytes n)) (Free taken (body_place bytes n) (body_end bytes n))
  alone_decides n taken marked = by (shares_earlier bytes n) refl
    where
      by : (shares : Bool) → shares_earlier bytes n ≡ shares → Decides (not shares) (Free taken (body_place bytes n) (body_end bytes n))
      by true shares = (
        λ h. absurd (false≢true h),
        λ free.
            let w = (any_decides (share_a_byte bytes n) n).0 shares in
            let b = (share_decides n w.0).0 w.2 in
            let own = (in_body_bounds b.0 n).0 b.1 in
            let some = (any_decides (in_body b.0) n).1 (w.0, w.1, b.2) in
            absurd (true≢false (sym some ∙ sym (marked b.0) ∙ free b.0 own.0 own.1)),
      )
      by false alone = (
        λ _ b from below. marked b ∙ false_from_ne_true _ (λ some. true≢false (sym (earlier n b (from, below) some) ∙ alone)),
        λ _. refl,
      )

  pub none_marked : (taken : List Bool) → ((b : ℕ) → get_or taken b false ≡ false) → Marked 0 taken
  none_marked taken free b = free b ∙ sym (any_none (in_body b))

  pub one_more_marked : (n : ℕ) (taken after : List Bool) → Marked n taken → ((b : ℕ) → get_or after b false ≡ taken_also taken (body_place bytes n) (body_end bytes n) b) → Marked (n + 1) after
  one_more_marked n taken after marked takes b = takes b ∙ ap (λ t. in_body b n || t) (marked b) ∙ sym (any_more (in_body b) n)
