-- Values of AVP data (RFC 6733 sections 4.2 and 4.3.1). Text is UTF-8 as std has it.
use Rattle.std.specs.Prelude.{◌≡◌, ◌≢◌, ◌<◌, ◌-◌, ◌^◌, ℕ, nat_lt, Bool, true, false, ◌==◌, List, ◌∷◌, ◌++◌, length}
use Rattle.std.specs.Prelude.{if◌then◌else◌}
use Rattle.byteorder.specs.Endian.{big_bytes, big_number}
use Rattle.dia_avp.specs.declared.address.Address.{Address}
use Rattle.dia_avp.specs.declared.address.Address.TheVariants.{V4, V6, Other}

-- an Unsigned32 is 32 bits in network byte order
abbrev pub IsUnsigned32 : List ℕ → ℕ → Type 0
IsUnsigned32 octets n = (n < 2 ^ 32) × (octets ≡ big_bytes 4 n)

-- an Unsigned64 is 64 bits in network byte order
abbrev pub IsUnsigned64 : List ℕ → ℕ → Type 0
IsUnsigned64 octets n = (n < 2 ^ 64) × (octets ≡ big_bytes 8 n)

-- an Address is a family of 2 octets and the address itself: 4 octets in family 1, 16 in family 2, any in another
abbrev pub IsAddress : List ℕ → Address → Type 0
IsAddress octets (V4 address) = (length address ≡ 4) × (octets ≡ 0 ∷ 1 ∷ address)
IsAddress octets (V6 address) = (length address ≡ 16) × (octets ≡ 0 ∷ 2 ∷ address)
IsAddress octets (Other family address) =
    (family < 2 ^ 16) × (family ≢ 1) × (family ≢ 2) × (octets ≡ big_bytes 2 family ++ address.now)

-- whether so many octets are an address of a family
abbrev pub is_size_of : ℕ → ℕ → Bool
is_size_of family size = if family == 1 then size == 4 else if family == 2 then size == 16 else true

-- whether data are an Address: no shorter than the family, and of its size
abbrev pub is_address : List ℕ → Bool
is_address octets = if nat_lt (length octets) 2 then false else is_size_of (big_number 2 octets) (length octets - 2)
