-- What a connection answers by itself.
use Rattle.std.specs.Prelude.{ℕ, ◌==◌, ◌&&◌, ◌^◌, not, nat_le, Bool, false, List, [], length, find, Option, None, Some}
use Rattle.std.specs.Prelude.{if◌then◌else◌}
use Rattle.std.specs.Option.{option_and_then, option_map_or}
use Rattle.std.specs.Str.{is_utf8}
use Rattle.base_codes.specs.declared.avp_code.TheConstants.{SESSION_ID}
use Rattle.dia_avp.specs.Encoding.{length_of}
use Rattle.dia_avp.specs.Look.{is_coded}
use Rattle.dia_command.specs.Header.{header_in}
use Rattle.dia_msg.specs.Walk.{whole_avps}
use Rattle.dia_tree.specs.declared.fault.MsgFault.{MsgFault}
use Rattle.dia_write.specs.Answer.{answer_to}
use Rattle.dia_write.specs.declared.answer.Identity.{Identity}
use Rattle.line_message.specs.Sent.{octets_of}

-- whether octets are a Session-Id: 1 to 255 octets of UTF-8
unfoldable pub is_session_id : List ℕ → Bool
is_session_id octets = is_utf8 octets && (not (length octets == 0) && nat_le (length octets) 255)

-- the Session-Id that octets are
abbrev pub session_of : List ℕ → Option (List ℕ)
session_of octets = if is_session_id octets then Some octets else None

-- the session of a message that may be faulty: that of its first whole AVP Session-Id without a vendor, before any
-- broken length at the top level
abbrev pub session_in : List ℕ → Option (List ℕ)
session_in octets = option_and_then (λ a. session_of a.octets) (find (is_coded SESSION_ID) (whole_avps octets))

-- whether 24 bits don't hold the length of the failed AVP
unfoldable pub is_long : MsgFault → Bool
is_long f = option_map_or (λ a. nat_le (2 ^ 24) (length_of a)) f.failed false

-- the octets of the answer to a message with such a fault (RFC 6733 section 7.2); none where 24 bits don't hold its
-- length
unfoldable pub answer_octets : Identity → List ℕ → MsgFault → List ℕ
answer_octets me octets f = if is_long f then [] else octets_of (answer_to me (header_in octets) (session_in octets) f)
