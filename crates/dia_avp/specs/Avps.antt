-- What octets mean: the AVPs whose encodings joined they are, reserved flags and padding aside (RFC 6733 section 4.1).
use Rattle.std.specs.Prelude.{◌≡◌, ◌<◌, ◌≤◌, ℕ, zero, suc, ◌+◌, ◌^◌, Bool, true, false, not, ◌==◌, ◌⊎◌, bit_and, List}
use Rattle.std.specs.Prelude.{[], ◌∷◌, ◌++◌, length, slice_index, drop, Option, Some, None, Result, Ok, Err}
use Rattle.std.specs.Prelude.{if◌then◌else◌}
use Rattle.byteorder.specs.Endian.{big_bytes, big_number}
use Rattle.dia_avp.specs.declared.avp.Avp.{Avp}
use Rattle.dia_avp.specs.declared.fault.FaultCode.{FaultCode}
use Rattle.dia_avp.specs.declared.fault.FaultCode.TheVariants.{ShortHeader, LengthBelowHeader, PastEnd, TooMany}
use Rattle.dia_avp.specs.declared.fault.FaultCode.TheVariants.{TooDeep}
use Rattle.dia_avp.specs.declared.fault.AvpFault.{AvpFault}
use Rattle.dia_avp.specs.declared.fault.ReadError.{ReadError}
use Rattle.dia_avp.specs.declared.fault.ReadError.TheVariants as read_errors
use Rattle.dia_avp.specs.Encoding.{padded, header}

-- whether a flag is set among the flags
abbrev pub has_flag : ℕ → ℕ → Bool
has_flag mask flags = not (bit_and flags mask == 0)

-- the vendor of a Vendor-ID: 0 counts as none
abbrev pub vendor_of : ℕ → Option ℕ
vendor_of zero = None
vendor_of (suc n) = Some (suc n)

-- the Vendor-ID stands there only with flag V
abbrev pub IsVendor : Bool → List ℕ → Option ℕ → Type 0
IsVendor false id vendor = (id ≡ []) × (vendor ≡ None)
IsVendor true id vendor = (n : ℕ) × (n < 2 ^ 32) × (id ≡ big_bytes 4 n) × (vendor ≡ vendor_of n)

-- the octets are one AVP with its padding, and then the rest; reserved flags and padding are any
pub record AvpThen (octets : List ℕ) (a : Avp) (rest : List ℕ) : Type 0 where
  pub flags : ℕ
  pub id : List ℕ
  pub padding : List ℕ
  pub len : ℕ
  -- the AVP Length counts header, Vendor-ID and data
  pub len_is : len ≡ 8 + length id + length a.octets
  pub joined : octets ≡ header a.code flags len ++ (id ++ (a.octets ++ (padding ++ rest)))
  pub code_fits : a.code < 2 ^ 32
  pub len_fits : len < 2 ^ 24
  pub vendor : IsVendor (has_flag 128 flags) id a.vendor
  pub mandatory : a.mandatory ≡ has_flag 64 flags
  pub protected : a.protected ≡ has_flag 32 flags
  -- padding goes to a multiple of 4 at most, and only the last may be missing, wholly or in part
  pub padding_fits : len + length padding ≤ padded len
  pub padding_whole : (rest ≡ [] → ⊥) → len + length padding ≡ padded len

-- the octets are these AVPs one after the other, and then the rest
abbrev pub AvpsThen : List ℕ → List Avp → List ℕ → Type 0
AvpsThen octets [] rest = octets ≡ rest
AvpsThen octets (a ∷ list) rest = (next : List ℕ) × AvpThen octets a next × AvpsThen next list rest

-- the octets are the encodings of these AVPs joined
abbrev pub Avps : List ℕ → List Avp → Type 0
Avps octets list = AvpsThen octets list []

-- how many octets the header has that stands at the front, with its Vendor-ID
abbrev pub header_len : List ℕ → ℕ
header_len octets = if has_flag 128 (slice_index octets 4) then 12 else 8

-- the AVP Length that the header at the front gives
abbrev pub length_field : List ℕ → ℕ
length_field octets = big_number 3 (drop 5 octets)

-- what is wrong at the front: the header is cut, its length is below the header's, or the AVP runs past the end
abbrev pub Broken : List ℕ → FaultCode → Type 0
Broken octets ShortHeader = length octets < header_len octets
Broken octets LengthBelowHeader = (header_len octets ≤ length octets) × (length_field octets < header_len octets)
Broken octets PastEnd =
    (header_len octets ≤ length octets) × (header_len octets ≤ length_field octets)
    × (length octets < length_field octets)
Broken octets TooMany = ⊥
Broken octets TooDeep = ⊥

-- nothing is left, or what is left begins with a broken AVP
abbrev pub IsLeftOver : List ℕ → Type 0
IsLeftOver left = (left ≡ []) ⊎ ((code : FaultCode) × Broken left code)

-- what stands at the front: an AVP and then the rest, or a fault
abbrev pub IsFront : List ℕ → Result (Avp × List ℕ) FaultCode → Type 0
IsFront octets (Ok x) = AvpThen octets x.0 x.1
IsFront octets (Err code) = Broken octets code

-- nothing else stands at the front
abbrev pub IsOnlyFront : List ℕ → Result (Avp × List ℕ) FaultCode → Type 0
IsOnlyFront octets answer = (other : Result (Avp × List ℕ) FaultCode) → IsFront octets other → other ≡ answer

-- what is wrong at the front of what is left, with so many AVPs before: there are 128 already, or the next is broken
abbrev pub Wrong : ℕ → List ℕ → FaultCode → Type 0
Wrong before octets TooMany = before ≡ 128
Wrong before octets ShortHeader = (before < 128) × Broken octets ShortHeader
Wrong before octets LengthBelowHeader = (before < 128) × Broken octets LengthBelowHeader
Wrong before octets PastEnd = (before < 128) × Broken octets PastEnd
Wrong before octets TooDeep = ⊥

-- the AVPs before are whole, and the next one, from place at, is wrong
pub record WrongAt (octets : List ℕ) (at : ℕ) (code : FaultCode) : Type 0 where
  pub before : List Avp
  pub left : List ℕ
  pub whole : AvpsThen octets before left
  pub more : 0 < length left
  pub place : at + length left ≡ length octets
  pub wrong : Wrong (length before) left code

-- the first fault of octets within so many groups
abbrev pub IsFault : List ℕ → ℕ → AvpFault → Type 0
IsFault octets depth f = ((4 < depth) × (f.at ≡ 0) × (f.code ≡ TooDeep)) ⊎ ((depth ≤ 4) × WrongAt octets f.at f.code)

-- what octets within so many groups are read as: the list, or the first fault
abbrev pub IsReading : List ℕ → ℕ → Result (List Avp) AvpFault → Type 0
IsReading octets depth (Ok list) = (depth ≤ 4) × (length list ≤ 128) × Avps octets list
IsReading octets depth (Err f) = IsFault octets depth f

-- no other list or fault is
abbrev pub IsOnlyReading : List ℕ → ℕ → Result (List Avp) AvpFault → Type 0
IsOnlyReading octets depth answer = (other : Result (List Avp) AvpFault) → IsReading octets depth other → other ≡ answer

-- what a call answered has this property, unless memory ran out
abbrev pub UnlessNoMemory : Result (List Avp) ReadError → (Result (List Avp) AvpFault → Type 0) → Type 0
UnlessNoMemory (Ok list) P = P (Ok list)
UnlessNoMemory (Err read_errors.NoMemory) P = Unit {0}
UnlessNoMemory (Err (read_errors.Fault f)) P = P (Err f)
