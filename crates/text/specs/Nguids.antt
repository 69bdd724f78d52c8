-- NGUIDs: "urn:emergency:uid:gis:", a layer, a colon, a local identifier, a colon, an agency. Assumes nothing.
use Rattle.std.specs.Prelude.{◌≡◌, ℕ, ◌+◌, ◌<◌, ◌≤◌, Bool, cond, ◌&&◌, List, ◌++◌, length, take, drop, Some, None, codes, Option, ◌==◌, nat_le, nat_lt}
use Rattle.std.specs.List.{All, list_all, position}
use Rattle.std.specs.Option.{option_and_then, option_map}
use Rattle.std.specs.Str.{bytes_eq}
use Rattle.text.specs.Bytes.{IsAgencyByte, IsLocalByte, is_agency_byte, is_local_byte}
use Rattle.text.specs.Widths.{nguid_width}
use Rattle.text.specs.declared.nguid.Layer.{Layer}
use Rattle.text.specs.declared.nguid.Layer.TheVariants.{Road, AddressPoint, Alias}
use Rattle.text.specs.declared.nguid.Nguid.{Nguid}

unfoldable pub nguid_front : List ℕ
nguid_front = codes "urn:emergency:uid:gis:"

abbrev pub layer_text : Layer → List ℕ
layer_text Road = codes "RCL"
layer_text AddressPoint = codes "SSAP"
layer_text Alias = codes "SNA"

-- what tells an NGUID from the others of its layer
pub record NguidParts : Type 0 where
  pub local : List ℕ
  pub agency : List ℕ

abbrev pub parts_of : Nguid → NguidParts
parts_of nguid = record { local = nguid.local.now; agency = nguid.agency.now }

abbrev pub colon : List ℕ
colon = codes ":"

-- what stands before the parts
abbrev pub nguid_start : Layer → List ℕ
nguid_start layer = nguid_front ++ (layer_text layer ++ colon)

abbrev pub nguid_text : Layer → NguidParts → List ℕ
nguid_text layer parts = nguid_start layer ++ (parts.local ++ (colon ++ parts.agency))

-- the text is the NGUID of that layer and those parts
pub record NguidText (layer : Layer) (text : List ℕ) (parts : NguidParts) : Type 0 where
  pub whole : text ≡ nguid_text layer parts
  pub within : length text ≤ nguid_width
  pub local_some : 0 < length parts.local
  pub local_bytes : All IsLocalByte parts.local
  pub agency_some : 0 < length parts.agency
  pub agency_bytes : All IsAgencyByte parts.agency

-- what follows the front, if the text begins with it
unfoldable pub after : List ℕ → List ℕ → Option (List ℕ)
after front text = cond (bytes_eq (take (length front) text) front) (Some (drop (length front) text)) None

-- what stands before and after the first colon, if there is one
unfoldable pub colon_split : List ℕ → Option NguidParts
colon_split text =
    option_map (λ place. record { local = take place text; agency = drop (place + 1) text }) (position (λ byte. byte == 58) text)

-- both parts have bytes, and only bytes of their alphabet
abbrev pub has_form : NguidParts → Bool
has_form parts =
    (nat_lt 0 (length parts.local) && nat_lt 0 (length parts.agency))
    && (list_all is_local_byte parts.local && list_all is_agency_byte parts.agency)

abbrev pub if_formed : NguidParts → Option NguidParts
if_formed parts = cond (has_form parts) (Some parts) None

-- what follows the front, the layer and a colon, split at its first colon and well formed
unfoldable pub read_nguid : Layer → List ℕ → Option NguidParts
read_nguid layer text =
    cond (nat_le (length text) nguid_width)
    (option_and_then if_formed (option_and_then colon_split (option_and_then (after colon) (option_and_then (after (layer_text layer)) (after nguid_front text)))))
    None
