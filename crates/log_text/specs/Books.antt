-- The names that the text of a log has.
use Rattle.std.specs.Prelude.{ℕ, List}
use Rattle.bench_item.specs.declared.key.Role.{Role}
use Rattle.bench_item.specs.declared.key.Role.TheVariants.{Peer, Client, Server}
use Rattle.step_text.specs.Names.{Names, names_of}
use Rattle.log_text.specs.declared.book.NameBook.{NameBook}

-- those of kinds and machines, and of the states of a role's table
pub record Named : Type 0 where
  pub names : Names
  pub states : Role → List (List ℕ)

abbrev pub states_in : NameBook → Role → List (List ℕ)
states_in book Peer = book.peer_states.now
states_in book Client = book.client_states.now
states_in book Server = book.server_states.now

abbrev pub named : NameBook → Named
named book = record { names = names_of book.laws.now book.machines.now; states = states_in book }
