-- The messages that deeds send, and the octets of a message.
use Rattle.std.specs.Prelude.{ℕ, ◌^◌, nat_lt, List, [], Option, if◌then◌else◌}
use Rattle.std.specs.Option.{option_map_or, option_or}
use Rattle.charge_message.specs.Messages.{request_by, answer_by}
use Rattle.dia_command.specs.declared.command.Command.{Command}
use Rattle.dia_write.specs.Encoding.{encode, message_len}
use Rattle.dia_write.specs.declared.answer.Identity.{Identity}
use Rattle.peer_rules.specs.Messages.{message_of}
use Rattle.bench_item.specs.declared.item.LineItem.{LineItem}

-- the message of a deed: of a peer's machine (RFC 6733 section 5), or of credit control (RFC 8506 section 3)
abbrev pub command_of : Identity → LineItem → Option Command
command_of me item =
    option_or (message_of me item.deed)
    (option_or (request_by me item.session item.deed) (answer_by me item.session item.deed))

-- the octets of a message; none where 24 bits don't hold its length, since there is no such message (RFC 6733 section
-- 3)
unfoldable pub octets_of : Command → List ℕ
octets_of command = if nat_lt (message_len command) (2 ^ 24) then encode command else []

-- the octets of the message that a deed sends, none where it sends none
abbrev pub message_octets : Identity → LineItem → List ℕ
message_octets me item = option_map_or octets_of (command_of me item) []
