-- What is printed of a message, line by line.
use Rattle.std.specs.Prelude.{◌≡◌, ℕ, ◌+◌, Bool, List, [], ◌∷◌, ◌++◌, length, drop, codes, decimal, is_some, Option}
use Rattle.std.specs.Prelude.{Some, None, if◌then◌else◌}
use Rattle.std.specs.List.{flat_map}
use Rattle.hex.specs.Hex.{encode_lower}
use Rattle.base_text.specs.Contents.{content_text}
use Rattle.dia_avp.specs.declared.avp.Avp.{Avp}
use Rattle.dia_avp.specs.Avps.{AvpThen, AvpsThen}
use Rattle.dia_command.specs.declared.header.Header.{Header}
use Rattle.dia_command.specs.declared.header.Flags.{Flags}

-- a flag's letter, or `-` where it isn't set
abbrev pub letter : Bool → ℕ → ℕ
letter set sign = if set then sign else 45

-- `R`, `P`, `E`, `T`
abbrev pub header_letters : Flags → List ℕ
header_letters f = letter f.request 82 ∷ letter f.proxiable 80 ∷ letter f.error 69 ∷ letter f.retransmitted 84 ∷ []

-- `message 280 R--- app 0 hop 1 end 1 length 56`
abbrev pub header_line : Header → List ℕ
header_line h =
    codes "message " ++ decimal h.command ++ codes " " ++ header_letters h.flags
    ++ codes " app " ++ decimal h.application ++ codes " hop " ++ decimal h.hop_by_hop
    ++ codes " end " ++ decimal h.end_to_end ++ codes " length " ++ decimal h.length ++ codes "\n"

-- `/10415` behind an AVP's code, where there is a vendor
abbrev pub vendor_text : Option ℕ → List ℕ
vendor_text None = []
vendor_text (Some vendor) = codes "/" ++ decimal vendor

-- `V`, where there is a vendor, `M`, `P`
abbrev pub avp_letters : Option ℕ → Bool → Bool → List ℕ
avp_letters vendor mandatory protected = letter (is_some vendor) 86 ∷ letter mandatory 77 ∷ letter protected 80 ∷ []

-- header and content, without padding
abbrev pub printed_length : Avp → ℕ
printed_length a = (if is_some a.vendor then 12 else 8) + length a.octets

-- `  264 -M-`
abbrev pub avp_name : Avp → List ℕ
avp_name a =
    codes "  " ++ decimal a.code ++ vendor_text a.vendor ++ codes " " ++ avp_letters a.vendor a.mandatory a.protected

-- `  264 -M- 17`
abbrev pub avp_head : Avp → List ℕ
avp_head a = avp_name a ++ codes " " ++ decimal (printed_length a)

-- `  264 -M- 17 612e6578616d706c65`
abbrev pub avp_line : Avp → List ℕ
avp_line a =
    avp_name a ++ codes " " ++ decimal (printed_length a) ++ content_text a.octets ++ codes "\n"

-- no AVP stands at the front
abbrev pub NoAvp : List ℕ → Type 0
NoAvp octets = (a : Avp) (rest : List ℕ) → AvpThen octets a rest → ⊥

-- the lines of the AVPs that octets begin with, as many as there are
pub record AvpLines (octets lines : List ℕ) : Type 0 where
  pub avps : List Avp
  pub rest : List ℕ
  pub whole : AvpsThen octets avps rest
  pub no_more : NoAvp rest
  pub printed : lines ≡ flat_map avp_line avps

-- a command: its header, the AVPs of its encoding, and its encoding
pub record MessageText (header : Header) (encoding lines : List ℕ) : Type 0 where
  pub avp_lines : List ℕ
  pub avps : AvpLines (drop 20 encoding) avp_lines
  pub printed : lines ≡ header_line header ++ avp_lines ++ codes "octets " ++ encode_lower encoding ++ codes "\n"

-- `fault 5005` and the failed AVP's encoding behind one blank, where there is one
abbrev pub fault_line : ℕ → List ℕ → List ℕ
fault_line number encoding = codes "fault " ++ decimal number ++ content_text encoding ++ codes "\n"
