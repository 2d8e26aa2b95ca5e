-- What is wrong with a message, and which of its AVPs it is.
use Rattle.std.specs.Prelude.{ℕ, ◌==◌, ◌&&◌, not, Bool, true, false, List, [], ◌++◌, codes, decimal, Option, None, Some}
use Rattle.std.specs.Prelude.{Result, Ok, Err}
use Rattle.std.specs.Option.{option_map}
use Rattle.std.specs.List.{find}
use Rattle.std.specs.Str.{bytes_eq}
use Rattle.base_codes.specs.declared.result_code.ResultCode.{ResultCode}
use Rattle.base_codes.specs.declared.result_code.ResultCode.TheVariants.{CommandUnsupported, ApplicationUnsupported}
use Rattle.base_codes.specs.declared.result_code.ResultCode.TheVariants.{AvpUnsupported, InvalidAvpValue, MissingAvp}
use Rattle.base_codes.specs.declared.result_code.ResultCode.TheVariants.{UnsupportedVersion, UnableToComply}
use Rattle.base_codes.specs.declared.result_code.ResultCode.TheVariants.{InvalidAvpLength, InvalidMessageLength}
use Rattle.base_codes.specs.ResultCodes.{number_of, name_of}
use Rattle.dia_avp.specs.declared.avp.Avp.{Avp}
use Rattle.dia_avp.specs.declared.fault.FaultCode.{FaultCode}
use Rattle.dia_avp.specs.Reading.{avp_at}
use Rattle.dia_dict.specs.declared.definition.Definition.{Definition}
use Rattle.dia_dict.specs.declared.fault.DictFault.{DictFault}
use Rattle.dia_dict.specs.declared.fault.DictFault.TheVariants.{BadLength}
use Rattle.dia_dict.specs.Dictionary.{definition_of, same_vendor, fault_of}
use Rattle.dia_tree.specs.Kind.{is_grouped}
use Rattle.dia_tree.specs.Faults.{cut_avp}
use Rattle.dia_tree.specs.declared.fault.MsgFault.{MsgFault}
use Rattle.msg_explain.specs.Parts.{Piece}
use Rattle.msg_explain.specs.Lines.{name_text}
use Rattle.msg_explain.specs.Messages.{numbered}

-- what a fault's Result-Code means of a message (RFC 6733 section 7.1)
unfoldable pub reason : ResultCode → List ℕ
reason CommandUnsupported = codes "no command with this code and flag R is read here"
reason ApplicationUnsupported = codes "the Application-Id is not that of the command"
reason AvpUnsupported = codes "an AVP that is not known has flag M"
reason InvalidAvpValue = codes "an AVP has a value that is not allowed"
reason MissingAvp = codes "an AVP that is required is missing"
reason UnsupportedVersion = codes "the version is not 1"
reason UnableToComply = codes "more than 128 AVPs, more than 4 levels of groups, or services that can't be told apart"
reason InvalidAvpLength = codes "an AVP has a wrong length"
reason InvalidMessageLength = codes "the length in the header is not that of the message"
reason code = codes "refused"

-- whether a fault of data is that of its size
abbrev pub is_bad_length : Option DictFault → Bool
is_bad_length (Some BadLength) = true
is_bad_length fault = false

-- whether an AVP's data, if it is no group, have a size that their type doesn't have
abbrev pub is_ill_sized : List Definition → Avp → Bool
is_ill_sized definitions a =
    is_bad_length (fault_of definitions a) && not (is_grouped (definition_of definitions a.code a.vendor))

-- whether two AVPs have one code and vendor
abbrev pub same_code : Avp → Avp → Bool
same_code a b = (a.code == b.code) && same_vendor a.vendor b.vendor

-- whether this is the failed AVP of a wrong length: one of its code and vendor that is broken or ill-sized
abbrev pub is_wrong_length : List Definition → Avp → List ℕ → Result (Avp × List ℕ) FaultCode → Bool
is_wrong_length definitions failed octets (Ok x) = same_code failed x.0 && is_ill_sized definitions x.0
is_wrong_length definitions failed octets (Err code) = same_code failed (cut_avp octets)

-- whether this is the failed AVP of another fault: one of its code and vendor with the same data
abbrev pub is_failed_itself : Avp → Result (Avp × List ℕ) FaultCode → Bool
is_failed_itself failed (Ok x) = same_code failed x.0 && bytes_eq failed.octets x.0.octets
is_failed_itself failed (Err code) = false

-- whether a part is the failed AVP of a fault; one that is missing is none
abbrev pub is_failed : List Definition → ResultCode → Avp → List ℕ → Bool
is_failed definitions MissingAvp failed octets = false
is_failed definitions InvalidAvpLength failed octets = is_wrong_length definitions failed octets (avp_at octets)
is_failed definitions code failed octets = is_failed_itself failed (avp_at octets)

-- where the failed AVP of a fault begins in its message: the first part that is it
abbrev pub failed_place : List Definition → ResultCode → Avp → List Piece → Option ℕ
failed_place definitions code failed pieces =
    option_map (λ (p : Piece). p.place) (find (λ (p : Piece). is_failed definitions code failed p.octets) pieces)

-- ` at its octet 88`, nothing without a place
abbrev pub at_text : Option ℕ → List ℕ
at_text None = []
at_text (Some place) = codes " at its octet " ++ decimal place

-- `/10415` behind a code, where there is a vendor
abbrev pub vendor_of_text : Option ℕ → List ℕ
vendor_of_text None = []
vendor_of_text (Some vendor) = codes "/" ++ decimal vendor

-- `: AVP 416 CC-Request-Type`
unfoldable pub avp_title : List Definition → Avp → List ℕ
avp_title definitions a =
    codes ": AVP " ++ decimal a.code ++ vendor_of_text a.vendor
    ++ codes " " ++ name_text (definition_of definitions a.code a.vendor)

-- an AVP of a fault, and where it begins in its message
unfoldable pub failed_avp_text : List Definition → ResultCode → Avp → List Piece → List ℕ
failed_avp_text definitions code a pieces = avp_title definitions a ++ at_text (failed_place definitions code a pieces)

-- the failed AVP, nothing where there is none
abbrev pub failed_text : List Definition → ResultCode → Option Avp → List Piece → List ℕ
failed_text definitions code None pieces = []
failed_text definitions code (Some a) pieces = failed_avp_text definitions code a pieces

-- `fault 5004 DIAMETER_INVALID_AVP_VALUE`
unfoldable pub fault_name : ResultCode → List ℕ
fault_name code = codes "fault " ++ decimal (number_of code) ++ codes " " ++ name_of code

-- ` in message 2 at octet 56: `
unfoldable pub message_place : Option ℕ → ℕ → ℕ → List ℕ
message_place line number offset = codes " in " ++ numbered line number offset

-- the line of a message's fault
unfoldable pub fault_line : List Definition → Option ℕ → ℕ → ℕ → List Piece → MsgFault → List ℕ
fault_line definitions line number offset pieces f =
    fault_name f.result ++ message_place line number offset
    ++ reason f.result ++ failed_text definitions f.result f.failed pieces ++ codes "\n"
