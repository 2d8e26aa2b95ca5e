-- What deeds post, of an item that a machine handled: `posts_by` needs the machine's number for its timer alone.
use Rattle.std.specs.Prelude.{ℕ, ◌==◌, Bool, List, [], slice_index, if◌then◌else◌}
use Rattle.base_codes.specs.declared.message_class.TheConstants.{REQUEST}
use Rattle.base_codes.specs.declared.session_fact.TheConstants.{CLASS, PEER}
use Rattle.tab_law.specs.Books.{Laws}
use Rattle.tab_law.specs.declared.scene.Deed.{Deed}
use Rattle.bench_item.specs.declared.item.Item.{Item}
use Rattle.bench_item.specs.declared.item.MachineItem.{MachineItem}
use Rattle.bench_item.specs.Keys.{Node}
use Rattle.bench_item.specs.Posts.{busy_facts, handed_on, to_line, to_peer}
use Rattle.bench_item.specs.Posts.{elect_posts as elected, message_posts as messages, session_posts as sessions}
use Rattle.bench_item.specs.Posts.{is_unsent as is_unsent_by, unsent_posts as unsent_by}
use Rattle.bench_post.specs.Nodes.{doer_of}

-- a deed for a connection
abbrev pub line_posts : MachineItem → Deed → List Item
line_posts item deed = to_line (doer_of 0 item) deed

-- a message of credit control for a connection
abbrev pub message_posts : MachineItem → Deed → List Item
message_posts item deed = messages (doer_of 0 item) deed

-- whether an event that no row took was a request of a session
abbrev pub is_unsent : Laws → MachineItem → Deed → Bool
is_unsent laws item deed = is_unsent_by laws (doer_of 0 item) deed

-- its session is told that it was not sent
abbrev pub unsent_posts : Node → MachineItem → Deed → List Item
unsent_posts node item deed = unsent_by node (doer_of 0 item) deed

-- a message for the peer whose machine has that number
abbrev pub peer_posts : Node → MachineItem → Deed → List Item
peer_posts node item deed = to_peer node (slice_index deed.a PEER) deed.a (handed_on (doer_of 0 item))

-- a message for the machine of the session that the deed hands on
abbrev pub session_posts : Node → MachineItem → Deed → List Item
session_posts node item deed = sessions node (doer_of 0 item) deed

-- the election is won
abbrev pub elect_posts : Node → MachineItem → Deed → List Item
elect_posts node item deed = elected node (doer_of 0 item) deed

-- a request that finds no room is answered, whatever machine it was for
abbrev pub answer_posts : Node → List ℕ → List ℕ → List Item
answer_posts node facts session =
    if slice_index facts CLASS == REQUEST then to_peer node (slice_index facts PEER) (busy_facts facts) session else []
