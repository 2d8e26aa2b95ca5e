-- Octets as text.
use Rattle.std.specs.Prelude.{ℕ, nat_le, ◌==◌, ◌&&◌, Bool, List, [], ◌∷◌, ◌++◌, codes, decimal, if◌then◌else◌}
use Rattle.std.specs.List.{flat_map}
use Rattle.std.specs.Net.Text.{ipv4_text, ipv6_text}
use Rattle.std.specs.Net.Addr.{segments_of}
use Rattle.hex.specs.Hex.{encode_lower}
use Rattle.dia_avp.specs.declared.address.Address.{Address}
use Rattle.dia_avp.specs.declared.address.Address.TheVariants.{V4, V6, Other}

-- a character of ASCII that is printed as it is
abbrev pub is_plain : ℕ → Bool
is_plain c = nat_le 32 c && nat_le c 126

-- an octet in a text: quotes and `\` behind `\`, plain ones as they are, all others as `\x` and two digits
unfoldable pub escaped : ℕ → List ℕ
escaped c =
    if c == 34 then 92 ∷ 34 ∷ []
    else if c == 92 then 92 ∷ 92 ∷ []
    else if is_plain c then c ∷ []
    else 92 ∷ 120 ∷ encode_lower (c ∷ [])

-- a text in quotes
abbrev pub quoted : List ℕ → List ℕ
quoted octets = codes "\"" ++ flat_map escaped octets ++ codes "\""

-- octets in hexadecimal behind `0x`
unfoldable pub octets_text : List ℕ → List ℕ
octets_text octets = codes "0x" ++ encode_lower octets

-- an address: IPv4 with dots, IPv6 by RFC 5952, another family with its number and in hexadecimal
abbrev pub seen_address_text : Address → List ℕ
seen_address_text (V4 four) = ipv4_text four
seen_address_text (V6 sixteen) = ipv6_text (segments_of sixteen)
seen_address_text (Other family octets) = codes "family " ++ decimal family ++ codes " " ++ octets_text octets.now
