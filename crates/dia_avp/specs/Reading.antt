-- The AVP at the front of octets and all AVPs of octets, as functions on lists, which reading code is proved against.
use Rattle.std.specs.Prelude.{ℕ, zero, suc, nat_lt, List, [], ◌∷◌, length, slice_index, slice_range, drop, Option, None}
use Rattle.std.specs.Prelude.{Result, Ok, Err, if◌then◌else◌}
use Rattle.byteorder.specs.Endian.{big_number}
use Rattle.dia_avp.specs.declared.avp.Avp.{Avp}
use Rattle.dia_avp.specs.declared.fault.FaultCode.{FaultCode}
use Rattle.dia_avp.specs.declared.fault.FaultCode.TheVariants.{ShortHeader, LengthBelowHeader, PastEnd}
use Rattle.dia_avp.specs.Encoding.{padded}
use Rattle.dia_avp.specs.Avps.{has_flag, vendor_of, header_len, length_field}

-- the vendor of the AVP at the front
unfoldable pub vendor_at : List ℕ → Option ℕ
vendor_at octets = if has_flag 128 (slice_index octets 4) then vendor_of (big_number 4 (drop 8 octets)) else None

-- the AVP at the front, where it is whole
unfoldable pub item_at : List ℕ → Avp
item_at octets = record {
  code = big_number 4 octets;
  vendor = vendor_at octets;
  mandatory = has_flag 64 (slice_index octets 4);
  protected = has_flag 32 (slice_index octets 4);
  octets = slice_range octets (header_len octets) (length_field octets);
}

-- the AVP at the front and what comes after its padding, or what is wrong there
unfoldable pub avp_at : List ℕ → Result (Avp × List ℕ) FaultCode
avp_at octets =
    if nat_lt (length octets) (header_len octets) then Err ShortHeader
    else if nat_lt (length_field octets) (header_len octets) then Err LengthBelowHeader
    else if nat_lt (length octets) (length_field octets) then Err PastEnd
    else Ok (item_at octets, drop (padded (length_field octets)) octets)

-- the whole AVPs of octets one after the other, at most so many, and what is left
unfoldable pub parted : ℕ → List ℕ → List Avp × List ℕ
parted zero octets = ([], octets)
parted (suc n) octets = elim (avp_at octets) [
  | Ok x ↦ (x.0 ∷ (parted n x.1).0, (parted n x.1).1)
  | Err code ↦ ([], octets)
]

-- the whole AVPs of octets one after the other, and what is left: nothing, or a broken AVP and all behind it
unfoldable pub avps_in : List ℕ → List Avp × List ℕ
avps_in octets = parted (length octets) octets
