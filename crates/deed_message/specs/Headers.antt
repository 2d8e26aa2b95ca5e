-- The headers of the messages that deeds send (RFC 6733 section 3).
use Rattle.std.specs.Prelude.{ℕ, ◌+◌, ◌*◌, ◌%◌, ◌^◌, Bool, true, false}
use Rattle.base_codes.specs.declared.command_code.CommandCode.{CommandCode}
use Rattle.base_codes.specs.declared.command_code.CommandCode.TheVariants.{CreditControl}
use Rattle.base_codes.specs.CommandCodes.{number_of}
use Rattle.dia_command.specs.declared.header.Header.{Header}
use Rattle.dia_command.specs.Format.{application_of}

-- whether a message of a deed has flag P: those of credit control, and no others; the standard leaves it to the sender
abbrev pub is_proxiable : CommandCode → Bool
is_proxiable CreditControl = true
is_proxiable command = false

-- the header of a message, with the Application-Id of its command; its length is computed where it is written
abbrev pub header : CommandCode → Bool → Bool → ℕ → ℕ → Header
header command request error hop_by_hop end_to_end = record {
  length = 0;
  flags = record { request = request; proxiable = is_proxiable command; error = error; retransmitted = false };
  command = number_of command;
  application = application_of (number_of command);
  hop_by_hop = hop_by_hop;
  end_to_end = end_to_end;
}

-- a number that has four octets
abbrev pub lowest : ℕ → ℕ
lowest number = number % 2 ^ 32

-- the identifier of a request: its machine's number and, in the lowest 16 bits, the count of its requests
abbrev pub identifier : ℕ → ℕ → ℕ
identifier machine count = (machine * 65536 + count % 65536) % 2 ^ 32

-- the header of a request, whose identifiers are one, and of an answer, with flag E or without
abbrev pub request_header : CommandCode → ℕ → ℕ → Header
request_header command machine count = header command true false (identifier machine count) (identifier machine count)

abbrev pub answer_header : CommandCode → Bool → ℕ → ℕ → Header
answer_header command error hop_by_hop end_to_end = header command false error (lowest hop_by_hop) (lowest end_to_end)
