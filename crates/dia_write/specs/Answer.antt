-- The answer that tells a fault (RFC 6733 sections 6.2, 7.1.3, 7.2 and 7.5).
use Rattle.std.specs.Prelude.{ℕ, ◌⊎◌, ◌<◌, ◌/◌, ◌==◌, true, false, List, [], length, Option, IsSome}
use Rattle.std.specs.Option.{option_map}
use Rattle.dia_avp.specs.Encoding.{encoded}
use Rattle.base_codes.specs.ResultCodes.{number_of}
use Rattle.dia_command.specs.declared.command.Command.{Command}
use Rattle.dia_command.specs.declared.command.Command.TheVariants.{ErrorAnswer}
use Rattle.dia_tree.specs.declared.fault.MsgFault.{MsgFault}
use Rattle.dia_command.specs.declared.header.Header.{Header}
use Rattle.dia_write.specs.declared.answer.Identity.{Identity}
use Rattle.dia_command.specs.declared.typed.TypedAvp.{TypedAvp}

-- a value that this node writes: with flag M, without P
abbrev pub made : {T : Type 0} → T → TypedAvp T
made value = record { mandatory = true; protected = false; value = value }

-- the header of an answer: the request's, with R and T clear, and E where the Result-Code is a protocol error, 3xxx
abbrev pub answer_header : Header → ℕ → Header
answer_header request code = record {
  length = 0;
  flags =
      record { request = false; proxiable = request.flags.proxiable; error = code / 1000 == 3; retransmitted = false };
  command = request.command;
  application = request.application;
  hop_by_hop = request.hop_by_hop;
  end_to_end = request.end_to_end;
}

-- a session is named, or one of the node's names has more than 32 octets
abbrev pub HasLongNames : Identity → Option (List ℕ) → Type 0
HasLongNames identity session = IsSome session ⊎ (32 < length identity.host) ⊎ (32 < length identity.realm)

-- the answer of a node to a request with this header, of this session, for this fault;
-- Failed-AVP holds the AVP's encoding
abbrev pub answer_to : Identity → Header → Option (List ℕ) → MsgFault → Command
answer_to identity request session fault = ErrorAnswer (record {
  header = answer_header request (number_of fault.result);
  session_id = option_map made session;
  origin_host = made identity.host;
  origin_realm = made identity.realm;
  result_code = made (number_of fault.result);
  failed_avp = option_map (λ a. made (encoded a)) fault.failed;
  rest = [];
})
