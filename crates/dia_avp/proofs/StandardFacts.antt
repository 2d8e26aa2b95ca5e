-- The encoding of AVPs of a Device-Watchdog-Request, octet by octet (RFC 6733 sections 4.1 and 5.5.1), and what such octets are.
use Rattle.std.proofs.Common.{◌≡◌, ℕ, true, false, List, [], ◌∷◌, ◌++◌, None, Some, refl}
use Rattle.dia_avp.specs.declared.avp.Avp.{Avp}
use Rattle.dia_avp.specs.declared.fault.FieldFault.TheVariants.{BadValue, BadLength}
use Rattle.dia_avp.specs.Encoding.{length_of, encoded, group_avp}
use Rattle.dia_avp.specs.Field.{is_address}
use Rattle.dia_avp.specs.Group.{group_fault}
use Rattle.dia_avp.specs.Reading.{vendor_at, item_at, avp_at, parted, avps_in}

-- Origin-Host of `a.example`: 17 octets and 3 of padding
abbrev origin_host : Avp
origin_host = record { code = 264; vendor = None; mandatory = true; protected = false; octets = 97 ∷ 46 ∷ 101 ∷ 120 ∷ 97 ∷ 109 ∷ 112 ∷ 108 ∷ 101 ∷ [] }

pub origin_host-encoded : encoded origin_host ≡ 0 ∷ 0 ∷ 1 ∷ 8 ∷ 64 ∷ 0 ∷ 0 ∷ 17 ∷ 97 ∷ 46 ∷ 101 ∷ 120 ∷ 97 ∷ 109 ∷ 112 ∷ 108 ∷ 101 ∷ 0 ∷ 0 ∷ 0 ∷ []
unfolding encoded length_of
origin_host-encoded = refl

-- an AVP with Vendor-ID 10415 and the flags V, M and P, and one with vendor 0
abbrev vendor_avp : Avp
vendor_avp = record { code = 1; vendor = Some 10415; mandatory = true; protected = true; octets = [] }

abbrev zero_avp : Avp
zero_avp = record { code = 1; vendor = Some 0; mandatory = false; protected = false; octets = 7 ∷ [] }

pub vendor_avp-encoded : encoded vendor_avp ≡ 0 ∷ 0 ∷ 0 ∷ 1 ∷ 224 ∷ 0 ∷ 0 ∷ 12 ∷ 0 ∷ 0 ∷ 40 ∷ 175 ∷ []
unfolding encoded length_of
vendor_avp-encoded = refl

pub zero_avp-encoded : encoded zero_avp ≡ 0 ∷ 0 ∷ 0 ∷ 1 ∷ 0 ∷ 0 ∷ 0 ∷ 9 ∷ 7 ∷ 0 ∷ 0 ∷ 0 ∷ []
unfolding encoded length_of
zero_avp-encoded = refl

-- the one whole AVP of its 17 octets without padding, and of these and a header that is cut
abbrev host_octets : List ℕ
host_octets = 0 ∷ 0 ∷ 1 ∷ 8 ∷ 64 ∷ 0 ∷ 0 ∷ 17 ∷ 97 ∷ 46 ∷ 101 ∷ 120 ∷ 97 ∷ 109 ∷ 112 ∷ 108 ∷ 101 ∷ []

pub host_octets-parts : avps_in host_octets ≡ (origin_host ∷ [], [])
unfolding avps_in parted avp_at item_at vendor_at
host_octets-parts = refl

pub cut_octets-parts : avps_in (host_octets ++ 0 ∷ 0 ∷ 0 ∷ 7 ∷ []) ≡ (origin_host ∷ [], 7 ∷ [])
unfolding avps_in parted avp_at item_at vendor_at
cut_octets-parts = refl

-- a group of that AVP has 8 octets before it (RFC 6733 section 4.4)
pub group-encoded : encoded (group_avp 443 true false (origin_host ∷ [])) ≡ 0 ∷ 0 ∷ 1 ∷ 187 ∷ 64 ∷ 0 ∷ 0 ∷ 28 ∷ encoded origin_host
unfolding encoded length_of
group-encoded = refl

-- its octets are a group within 4 groups, not within 5, and not with a cut header behind them
pub host_octets-group : group_fault 4 host_octets ≡ None
unfolding avps_in parted avp_at item_at vendor_at
host_octets-group = refl

pub host_octets-deep : group_fault 5 host_octets ≡ Some BadValue
unfolding avps_in parted avp_at item_at vendor_at
host_octets-deep = refl

pub cut_octets-group : group_fault 1 (host_octets ++ 0 ∷ 0 ∷ 0 ∷ 7 ∷ []) ≡ Some BadLength
unfolding avps_in parted avp_at item_at vendor_at
cut_octets-group = refl

-- 192.0.2.9 is an Address of family 1, not of family 2 (RFC 6733 section 4.3.1)
pub ipv4-address : is_address (0 ∷ 1 ∷ 192 ∷ 0 ∷ 2 ∷ 9 ∷ []) ≡ true
ipv4-address = refl

pub ipv4-of_family_2 : is_address (0 ∷ 2 ∷ 192 ∷ 0 ∷ 2 ∷ 9 ∷ []) ≡ false
ipv4-of_family_2 = refl
