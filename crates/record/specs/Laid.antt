-- A body is its fields, each its length byte and its bytes, and nothing else. Assumes nothing.
use Rattle.std.specs.Prelude.{◌≡◌, ℕ, ◌<◌, ◌⊎◌, List, [], ◌∷◌, ◌++◌, map, length}
use Rattle.std.specs.List.{range_with_len, flat_map}
use Rattle.delivery.specs.Fields.{place_in}
use Rattle.delivery.specs.Opened.{Part}
use Rattle.record.specs.Bodies.{field_text}

-- a field as it lies in a body
abbrev pub laid : List ℕ → List ℕ
laid field = length field ∷ field

-- the fields, put together, are the body
abbrev pub Laid : List ℕ → List (List ℕ) → Type 0
Laid body fields = body ≡ flat_map laid fields

abbrev pub first_texts : List ℕ → ℕ → List (List ℕ)
first_texts body count = map (field_text body) (range_with_len 0 count)

-- no length byte stands there, or fewer bytes than it says
abbrev pub PassesEnd : List ℕ → Type 0
PassesEnd rest = (rest ≡ []) ⊎ ((n : ℕ) × (more : List ℕ) × (rest ≡ n ∷ more) × (length more < n))

-- after some whole fields a field that passes the end, or after all of them a byte left over
pub record Breaks (count : ℕ) (body : List ℕ) (at : ℕ) : Type 0 where
  pub fields : List (List ℕ)
  pub rest : List ℕ
  pub parts : body ≡ flat_map laid fields ++ rest
  pub front : at ≡ length (flat_map laid fields)
  pub breaks : ((length fields < count) × PassesEnd rest) ⊎ ((length fields ≡ count) × (0 < length rest))

-- the place of the delivery at which the body breaks
abbrev pub BreaksAt : ℕ → Part → ℕ → Type 0
BreaksAt count body place = (at : ℕ) × Breaks count body.bytes at × (place ≡ place_in body at)
