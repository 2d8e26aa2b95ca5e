-- How AVPs are written (RFC 6733 section 4.1): the numbers in network byte order.
use Rattle.std.specs.Prelude.{◌≤◌, ℕ, zero, suc, ◌+◌, ◌*◌, ◌/◌, ◌-◌, ◌^◌, Bool, true, false, List, [], ◌∷◌, ◌++◌}
use Rattle.std.specs.Prelude.{length, Option, Some, None, if◌then◌else◌, replicate, Any}
use Rattle.std.specs.List.{flat_map}
use Rattle.byteorder.specs.Endian.{big_bytes}
use Rattle.dia_avp.specs.declared.avp.Avp.{Avp}

-- the least multiple of 4 that is no less
abbrev pub padded : ℕ → ℕ
padded n = (n + 3) / 4 * 4

-- the Vendor-ID of 4 octets, where there is a vendor; 0 is none
abbrev pub vendor_id : Option ℕ → List ℕ
vendor_id None = []
vendor_id (Some zero) = []
vendor_id (Some (suc n)) = big_bytes 4 (suc n)

-- the flag V: whether there is a Vendor-ID
abbrev pub has_vendor : Option ℕ → Bool
has_vendor None = false
has_vendor (Some zero) = false
has_vendor (Some (suc n)) = true

-- the flags V, M and P, and five reserved bits that are zero
abbrev pub flags_of : Bool → Bool → Bool → ℕ
flags_of v m p = (if v then 128 else 0) + (if m then 64 else 0) + (if p then 32 else 0)

-- the AVP Length: header, Vendor-ID and data, without padding
unfoldable pub length_of : Avp → ℕ
length_of a = 8 + length (vendor_id a.vendor) + length a.octets

-- what stands before the Vendor-ID: AVP Code of 4 octets, flags of 1, AVP Length of 3
abbrev pub header : ℕ → ℕ → ℕ → List ℕ
header code flags len = big_bytes 4 code ++ flags ∷ big_bytes 3 len

-- the canonical encoding of an AVP: header, Vendor-ID, data, and zeros up to a multiple of 4
unfoldable pub encoded : Avp → List ℕ
encoded a =
    header a.code (flags_of (has_vendor a.vendor) a.mandatory a.protected) (length_of a)
    ++ vendor_id a.vendor ++ a.octets ++ replicate (padded (length_of a) - length_of a) 0

-- the encodings of the AVPs, one after the other
abbrev pub encoding : List Avp → List ℕ
encoding list = flat_map encoded list

-- the AVP without vendor whose data are these AVPs (RFC 6733 section 4.4)
abbrev pub group_avp : ℕ → Bool → Bool → List Avp → Avp
group_avp code mandatory protected list = record {
  code = code;
  vendor = None;
  mandatory = mandatory;
  protected = protected;
  octets = encoding list;
}

-- some AVP is too long for 24 bits of length
abbrev pub HasLong : List Avp → Type 0
HasLong list = Any (λ a. 2 ^ 24 ≤ length_of a) list
