-- The names with which entries are printed are those of the bench.
use Rattle.std.proofs.Common.{◌≡◌, ◌<◌, ◌≤◌, ℕ, Bool, true, false, List, Option, None, arith, refl}
use Rattle.std.specs.Prelude.{cond, nat_lt}
use Rattle.std.proofs.lemmas.Bool.Decides.{nat_tests}
use Rattle.base_list.specs.declared.named.Named.{Named}
use Rattle.bench_item.specs.Keys.{shard_of}
use Rattle.bench_item.specs.declared.key.Key.{Key}
use Rattle.bench_item.specs.declared.key.Role.{Role}
use Rattle.bench_item.specs.declared.key.Role.TheVariants.{Peer, Client, Server}
use Rattle.bench_item.specs.declared.step.Step.{Step}
use Rattle.bench_spec.specs.Machines.{key_numbered}
use Rattle.bench_spec.specs.Taken.{Run}
use Rattle.log_text.specs.Books as books
use Rattle.log_text.specs.declared.book.NameBook.{NameBook}
use Rattle.step_text.specs.Names.{names_of}
use Rattle.tab_law.specs.Books.{Laws}
use Rattle.bench_script.specs.Printed.{machine_at, machines_for, names_at}

-- the machine of a number, by whether there is its shard
pub machine_at-by : (run : Run) (machine : ℕ) (key : Option Key)
    → (shard_of machine < run.settings.node.shards → key ≡ key_numbered run.settings.node run.log machine)
    → (run.settings.node.shards ≤ shard_of machine → key ≡ None)
    → key ≡ machine_at run machine
machine_at-by run machine key there none = by (nat_lt (shard_of machine) run.settings.node.shards) refl
  where
    by : (b : Bool) → nat_lt (shard_of machine) run.settings.node.shards ≡ b → key ≡ cond b (key_numbered run.settings.node run.log machine) None
    by true is = there (grind (arith, nat_tests, is))
    by false is = none (grind (arith, nat_tests, is))

-- the names of the states of three tables
by_role : (peer client server : List (List ℕ)) → Role → List (List ℕ)
by_role peer client server Peer = peer
by_role peer client server Client = client
by_role peer client server Server = server

names_by : (laws laws' : Laws) (machines machines' : List (Named ℕ)) (peer peer' client client' server server' : List (List ℕ))
    → laws ≡ laws' → machines ≡ machines' → peer ≡ peer' → client ≡ client' → server ≡ server'
    → let one : books.Named = record { names = names_of laws machines; states = by_role peer client server } in
    let other : books.Named = record { names = names_of laws' machines'; states = by_role peer' client' server' } in
    one ≡ other
names_by laws laws' machines machines' peer peer' client client' server server' l m p c s = cc

-- the book of names that an entry is printed with
pub names_are : (book : NameBook) (run : Run) (step : Step)
    → book.laws.now ≡ run.settings.node.laws → book.machines.now ≡ machines_for run step
    → book.peer_states.now ≡ run.settings.peer.states
    → book.client_states.now ≡ run.settings.client.states
    → book.server_states.now ≡ run.settings.server.states
    → books.named book ≡ names_at run step
unfolding by_role
names_are book run step laws machines peer client server =
    names_by book.laws.now run.settings.node.laws book.machines.now (machines_for run step)
    book.peer_states.now run.settings.peer.states book.client_states.now run.settings.client.states
    book.server_states.now run.settings.server.states laws machines peer client server
