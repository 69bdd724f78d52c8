-- The reason given is the first that applies, and an opened delivery keeps its bodies apart. Assumes nothing.
use Rattle.std.proofs.Common.{◌≡◌, ℕ, ◌+◌, ◌<◌, ◌≤◌, Bool, true, false, cond, List, length, is_some, Some, None, Option, refl, subst, inl, inr, ⊎_elim, arith}
use Rattle.std.proofs.lemmas.Bool.{cases_Bool, cases_lt, cases_order, lt-ltb, le-leb, not_from_false}
use Rattle.std.proofs.lemmas.Bool.Decides.{not_from_Decides, nat_tests}
use Rattle.std.specs.Option.{option_map, option_or}
use Rattle.promise.specs.First.{first_below}
use Rattle.promise.specs.Reasons.{ListedBefore}
use Rattle.promise.proofs.Firsts.{first_found, none_found}
use Rattle.promise.proofs.Reasons.{refused_first, refused_none}
use Rattle.delivery.specs.Contents.{entry_count, table_end, kind_byte, body_end}
use Rattle.delivery.specs.Kinds.{kind_numbered}
use Rattle.delivery.specs.Opened.{GivesAll}
use Rattle.delivery.specs.Opening.{most_bytes, no_table, bad_entry, shares_earlier, refusal_of}
use Rattle.delivery.specs.Refusals.{refusal_number, told_entry}
use Rattle.delivery.specs.Rules.{Applies, RefusedRightly, BodiesApart}
use Rattle.delivery.specs.declared.refusals.DeliveryRefusal.{DeliveryRefusal}
use Rattle.delivery.specs.declared.refusals.DeliveryRefusal.TheVariants.{NoTable, BadEntry, SharedByte}
use Rattle.delivery.proofs.Decided.{other_kind, table_decides, bad_decides, shares_decides}

some_mapped : {A B : Type 0} (f : A → B) (o : Option A) → is_some o ≡ true → is_some (option_map f o) ≡ true
some_mapped f None h = h
some_mapped f (Some x) h = refl

module _ (bytes : List ℕ) where
  has_table : no_table bytes ≡ false → Applies bytes NoTable → ⊥
  has_table e = not_from_Decides _ (table_decides bytes) e

  not_bad : (entry : ℕ) → bad_entry bytes entry ≡ false → Applies bytes (BadEntry entry) → ⊥
  not_bad entry e h = not_from_Decides _ (bad_decides bytes entry) e h.1

  not_sharing : (entry : ℕ) → shares_earlier bytes entry ≡ false → Applies bytes (SharedByte entry) → ⊥
  not_sharing entry e h = not_from_Decides _ (shares_decides bytes entry) e h.1

  firsts_0 : (s : DeliveryRefusal) → ListedBefore refusal_number told_entry s NoTable → ⊥
  firsts_0 NoTable = ⊎_elim (λ h. omega arith) (λ h. omega arith)
  firsts_0 (BadEntry j) = ⊎_elim (λ h. omega arith) (λ h. omega arith)
  firsts_0 (SharedByte j) = ⊎_elim (λ h. omega arith) (λ h. omega arith)

  module _ (table : no_table bytes ≡ false) where
    firsts_bad : (i : ℕ) → ((j : ℕ) → j < i → bad_entry bytes j ≡ false) → (s : DeliveryRefusal) → Applies bytes s → ListedBefore refusal_number told_entry s (BadEntry i) → ⊥
    firsts_bad i good NoTable a = λ _. has_table table a
    firsts_bad i good (BadEntry j) a = ⊎_elim (λ h. omega arith) (λ h. not_bad j (good j h.1) a)
    firsts_bad i good (SharedByte j) a = ⊎_elim (λ h. omega arith) (λ h. omega arith)

    firsts_shared : (i : ℕ) → ((j : ℕ) → j < entry_count bytes → bad_entry bytes j ≡ false) → ((j : ℕ) → j < i → shares_earlier bytes j ≡ false) → (s : DeliveryRefusal) → Applies bytes s → ListedBefore refusal_number told_entry s (SharedByte i) → ⊥
    firsts_shared i good apart NoTable a = λ _. has_table table a
    firsts_shared i good apart (BadEntry j) a = λ _. not_bad j (good j a.0) a
    firsts_shared i good apart (SharedByte j) a = ⊎_elim (λ h. omega arith) (λ h. not_sharing j (apart j h.1) a)

    none_applies : ((j : ℕ) → j < entry_count bytes → bad_entry bytes j ≡ false) → ((j : ℕ) → j < entry_count bytes → shares_earlier bytes j ≡ false) → (s : DeliveryRefusal) → Applies bytes s → ⊥
    none_applies good apart NoTable a = has_table table a
    none_applies good apart (BadEntry j) a = not_bad j (good j a.0) a
    none_applies good apart (SharedByte j) a = not_sharing j (apart j a.0) a

  at : (lacks : Bool) (bad shares : Option ℕ) → no_table bytes ≡ lacks → first_below (bad_entry bytes) (entry_count bytes) ≡ bad → first_below (shares_earlier bytes) (entry_count bytes) ≡ shares → RefusedRightly bytes (cond lacks (Some NoTable) (option_or (option_map BadEntry bad) (option_map SharedByte shares)))
  at true bad shares e f g = refused_first _ _ NoTable ((table_decides bytes).0 e) (λ s _. firsts_0 s)
  at false (Some i) shares e f g =
      let at_i = first_found _ _ i f in
      refused_first _ _ (BadEntry i) (omega (arith, at_i.below), (bad_decides bytes i).0 at_i.passes) (firsts_bad e i (λ j h. at_i.none_before j (omega arith) h))
  at false None (Some i) e f g =
      let at_i = first_found _ _ i g in
      refused_first _ _ (SharedByte i) (omega (arith, at_i.below), (shares_decides bytes i).0 at_i.passes) (firsts_shared e i (none_found _ _ f) (λ j h. at_i.none_before j (omega arith) h))
  at false None None e f g = refused_none _ _ (none_applies e (none_found _ _ f) (none_found _ _ g))

  pub refused_rightly : RefusedRightly bytes (refusal_of bytes)
  refused_rightly = at _ _ _ refl refl refl

  pub told_rightly : (refusal : Option DeliveryRefusal) → refusal_of bytes ≡ refusal → RefusedRightly bytes refusal
  told_rightly refusal told = subst (RefusedRightly bytes) told refused_rightly

  within_most : (n : ℕ) → no_table bytes ≡ false → bad_entry bytes n ≡ false → body_end bytes n ≤ most_bytes
  within_most n table good = grind (arith, nat_tests)

  -- a body of a delivery that passes the first two checks does not pass the most bytes that there can be
  pub body_fits : (count n : ℕ) → no_table bytes ≡ false → first_below (bad_entry bytes) count ≡ None → n < count → body_end bytes n ≤ most_bytes
  body_fits count n table good h = within_most n table (none_found _ count good n h)

-- what an opened delivery keeps
module _ (bytes : List ℕ) (opened : refusal_of bytes ≡ None) where
  never : (r : DeliveryRefusal) → Applies bytes r → ⊥
  never = (refused_rightly bytes).none opened

  pub bodies_apart : BodiesApart bytes
  bodies_apart = record {
    after_table = λ i h. ⊎_elim (λ before. absurd (never (BadEntry i) (h, inr (inl before)))) (λ after. after) (cases_lt _ _);
    inside = λ i h. ⊎_elim (λ past. absurd (never (BadEntry i) (h, inr (inr past)))) (λ inside. inside) (cases_lt _ _);
    apart = λ i j b h k in_i in_j.
        ⊎_elim
        (λ same. same)
        (⊎_elim
        (λ below. absurd (never (SharedByte j) (k, (i, b, below, in_i, in_j))))
        (λ above. absurd (never (SharedByte i) (h, (j, b, above, in_j, in_i)))))
        (cases_order i j);
  }

  has_lines : table_end (entry_count bytes) ≤ length bytes
  has_lines = ⊎_elim (λ short. absurd (never NoTable (inr (inr short)))) (λ h. h) (cases_lt _ _)

  known_kind : (n : ℕ) → n < entry_count bytes → is_some (kind_numbered (kind_byte bytes n)) ≡ true
  known_kind n h =
      ⊎_elim
      (λ known. known)
      (λ other. absurd (never (BadEntry n) (h, inl ((other_kind _).0 (not_from_false _ other)))))
      (cases_Bool (is_some (kind_numbered (kind_byte bytes n))))

module _ (bytes : List ℕ) (count : ℕ) (listed : count ≡ entry_count bytes) (opened : refusal_of bytes ≡ None) where
  pub inside : (n : ℕ) → n < count → body_end bytes n ≤ length bytes
  inside n h = (bodies_apart bytes opened).inside n (omega arith)

  has_line : (n : ℕ) → n < count → table_end (n + 1) ≤ length bytes
  has_line n h = omega (arith, has_lines bytes opened)

  pub gives_all : GivesAll (record { bytes = bytes; count = count })
  gives_all = record {
    entries = λ n h. rw (lt-ltb _ _ h, le-leb _ _ (has_line n h)) (some_mapped _ _ (known_kind bytes opened n (omega arith)));
    bodies = λ n h. rw (lt-ltb _ _ h, le-leb _ _ (has_line n h), le-leb _ _ (inside n h)) refl;
  }
