-- How a command is written (RFC 6733 section 3): header, fields in the order of its format, rest.
use Rattle.std.specs.Prelude.{◌≡◌, ◌↔◌, ◌<◌, ◌≤◌, ℕ, ◌+◌, ◌^◌, List, ◌++◌, length, Result, OnOk, OnErr, IsErrOf}
use Rattle.dia_avp.specs.Encoding.{encoding}
use Rattle.dia_avp.specs.declared.fault.WriteError.{WriteError}
use Rattle.dia_avp.specs.declared.fault.WriteError.TheVariants.{NoMemory, LengthOver24Bits}
use Rattle.dia_command.specs.declared.command.Command.{Command}
use Rattle.dia_command.specs.Header.{header_octets}
use Rattle.dia_write.specs.Framing.{IsWholeMessage, IsFirstFrame}
use Rattle.dia_command.specs.Command.{header_of, avps_of}

-- the Message Length: the header and all AVPs with their padding
abbrev pub message_len : Command → ℕ
message_len command = 20 + length (encoding (avps_of command))

-- the canonical encoding of a command
unfoldable pub encode : Command → List ℕ
encode command = header_octets (header_of command) (message_len command) ++ encoding (avps_of command)

-- 24 bits don't hold the length of the message; so it is wherever they don't hold the length of an AVP
abbrev pub IsTooLong : Command → Type 0
IsTooLong command = 2 ^ 24 ≤ message_len command

-- What a call answers that appends a command's encoding to octets, `len` of them in so much room: it is appended, or
-- refused where it is too long, or memory is wanting where there is no room for it; an error leaves the octets, and the
-- room stays. What was appended is one message, and the first frame of itself.
pub record Writes (command : Command) (answer : Result (Unit {0}) WriteError) (old new : List ℕ)
    (len room room_after : ℕ) : Type 0 where
  pub ok : OnOk answer (new ≡ old ++ encode command)
  pub too_long : IsErrOf answer LengthOver24Bits ↔ IsTooLong command
  pub err : OnErr answer (new ≡ old)
  pub memory : IsErrOf answer NoMemory → room < len + message_len command
  pub room_stays : room ≤ room_after
  pub message : OnOk answer (IsWholeMessage (encode command))
  pub frame : OnOk answer (IsFirstFrame (encode command))
