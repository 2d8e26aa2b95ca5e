-- The machines of a shard and their runs, with one more entry in its part of the log.
use Rattle.std.proofs.Common.{◌≡◌, ◌∙◌, ℕ, List, [], ◌∷◌, ◌++◌, Bool, true, false, None, ap, inl, inr, refl, subst, sym, ◌⊎◌}
use Rattle.std.specs.Prelude.{◌==◌, ◌≢◌, map, position}
use Rattle.std.specs.List.{list_any}
use Rattle.std.proofs.lemmas.Bool.{eqb-false, eqb-true}
use Rattle.std.proofs.lemmas.List.{append-nil}
use Rattle.acct_book.specs.Book.{Book}
use Rattle.bench_item.specs.Keys.{Configured, Node, home, is_same_key, node_of}
use Rattle.bench_item.specs.declared.entry.Entry.{Entry}
use Rattle.bench_item.specs.declared.entry.Handled.{Handled}
use Rattle.bench_item.specs.declared.entry.Handled.TheVariants.{Move, Stale, TooBusy}
use Rattle.bench_item.specs.declared.entry.Moved.{Moved}
use Rattle.bench_item.specs.declared.item.Item.{Item}
use Rattle.bench_item.specs.declared.item.MachineItem.{MachineItem}
use Rattle.bench_item.specs.declared.key.Key.{Key}
use Rattle.bench_move.specs.Tables.{Tables, table_of}
use Rattle.bench_shard.specs.Names.{key_octets}
use Rattle.bench_shard.specs.Settling.{names_left, states_left}
use Rattle.bench_shard.specs.Stands.{HasMachines}
use Rattle.bench_shard.specs.View.{ShardView}
use Rattle.bench_shard.specs.Works.{BecomesIn, after_work, state_left}
use Rattle.bench_shard.proofs.AbsentLemmas.{absent-moves}
use Rattle.bench_shard.proofs.ViewLemmas.{state-of}
use Rattle.bench_spec.specs.Legal.{IsRun}
use Rattle.bench_spec.specs.Machines.{directory, keys_in, moves_in, moves_of, number_for, start, state_at}
use Rattle.bench_spec.proofs.RunLemmas.{key_sound, run_append}
use Rattle.bench_views.proofs.Directories.{directory-same, moves_of-snoc, number_for-other, number_for-own, number_for-same}
use Rattle.bench_views.proofs.Handled.{keys-moved, keys-other, keys-stale, moves-busy, moves-other, moves-own, moves-stale, work_entry}
use Rattle.bench_views.proofs.Standing.{states-same}
use Rattle.bench_views.proofs.WorkStands.{names-after, place-there, states-after}
use Rattle.bench_desk.specs.Runs.{AreRuns}

-- the number of a machine in a part of the log
abbrev Numbered : Node → (old new : List Entry) → Key → Type 0
Numbered node old new key = number_for node new key ≡ number_for node old key

-- an entry that brings no machine and moves none leaves all as it was
pub machines-still : (node : Node) (log : List Entry) (e : Entry) (v : ShardView) → ((shard : ℕ) → keys_in node shard e ≡ []) → ((key : Key) → moves_in key e ≡ [])
    → HasMachines node log v → HasMachines node (log ++ e ∷ []) v
machines-still node log e v none still M = record {
  names = M.names ∙ ap (map key_octets) (sym (directory-same node v.number log e (none v.number)));
  states = M.states ∙ sym (states-same node v.number log e (none v.number) (λ key here. still key));
}

-- a run goes on where nothing moves
run-still : (tables : Tables) (peers : Configured) (log : List Entry) (e : Entry) (key : Key) → moves_in key e ≡ []
    → Numbered (node_of tables.laws peers) log (log ++ e ∷ []) key ⊎ (moves_of log key ≡ [])
    → IsRun tables.laws (table_of tables key.role) (start (number_for (node_of tables.laws peers) log key)) (moves_of log key)
    → IsRun tables.laws (table_of tables key.role) (start (number_for (node_of tables.laws peers) (log ++ e ∷ []) key)) (moves_of (log ++ e ∷ []) key)
run-still tables peers log e key still (inl same) run =
    let moves : moves_of (log ++ e ∷ []) key ≡ moves_of log key = moves_of-snoc log e key ∙ ap (λ ms. moves_of log key ++ ms) still ∙ append-nil (moves_of log key) in
    rw (moves, same) run
run-still tables peers log e key still (inr none) run =
    let moves : moves_of (log ++ e ∷ []) key ≡ [] = moves_of-snoc log e key ∙ ap (λ ms. ms ++ moves_in key e) none ∙ still in
    rw moves tt

pub runs-still : (tables : Tables) (peers : Configured) (log : List Entry) (e : Entry) → ((shard : ℕ) → keys_in (node_of tables.laws peers) shard e ≡ []) → ((key : Key) → moves_in key e ≡ [])
    → AreRuns tables peers log → AreRuns tables peers (log ++ e ∷ [])
runs-still tables peers log e none still runs key =
    let node = node_of tables.laws peers in
    run-still tables peers log e key (still key) (inl (number_for-same node log e key (none (home node.shards key.name)))) (runs key)

-- the machines of a shard that handled an item
pub machines-work : (node : Node) (log : List Entry) (v : ShardView) (item : MachineItem) (handled : Handled) (posts : List Item) → home node.shards item.key.name ≡ v.number
    → HasMachines node log v → HasMachines node (log ++ work_entry v.number item handled ∷ []) (after_work v item handled posts)
machines-work node log v item handled posts here M = record {
  names = ap (λ ns. names_left ns item.key (state_left v item handled)) M.names ∙ names-after node log v item handled here;
  states =
      ap (λ ns. states_left ns v.states item.key (state_left v item handled)) M.names
      ∙ ap (λ ss. states_left (map key_octets (directory node v.number log)) ss item.key (state_left v item handled)) M.states
      ∙ states-after node log v item handled here (sym (state-of node log v item.key M here));
}

-- a machine keeps its number, or has not moved
number-or-none : (node : Node) (log : List Entry) (e : Entry) (new key : Key)
    → ((home node.shards new.name ≡ home node.shards key.name) → keys_in node (home node.shards key.name) e ≡ new ∷ [])
    → ((home node.shards new.name ≢ home node.shards key.name) → keys_in node (home node.shards key.name) e ≡ [])
    → Numbered node log (log ++ e ∷ []) key ⊎ (moves_of log key ≡ [])
number-or-none node log e new key here elsewhere = by (list_any at all) refl
  where
    at : Key → Bool
    at k = is_same_key k key

    all : List Key
    all = directory node (home node.shards key.name) log

    its : (b : Bool) → (home node.shards new.name == home node.shards key.name) ≡ b → list_any at all ≡ true → Numbered node log (log ++ e ∷ []) key
    its true is there = number_for-other node log e new key (here (eqb-true _ _ is)) there
    its false is there = number_for-same node log e key (elsewhere (eqb-false _ _ is))

    by : (b : Bool) → list_any at all ≡ b → Numbered node log (log ++ e ∷ []) key ⊎ (moves_of log key ≡ [])
    by true is = inl (its (home node.shards new.name == home node.shards key.name) refl is)
    by false is =
        let none : position at all ≡ None = rw (place-there at all, is) refl in
        inr (absent-moves node (home node.shards key.name) key log refl none)

-- the machine that the item names moves
run-own : (tables : Tables) (book : Book) (log : List Entry) (v : ShardView) (item : MachineItem) (moved : Moved) → home v.peers.shards item.key.name ≡ v.number
    → HasMachines (node_of tables.laws v.peers) log v → BecomesIn tables book v item (Move moved)
    → IsRun tables.laws (table_of tables item.key.role) (start (number_for (node_of tables.laws v.peers) log item.key)) (moves_of log item.key)
    → IsRun tables.laws (table_of tables item.key.role) (start (number_for (node_of tables.laws v.peers) (log ++ work_entry v.number item (Move moved) ∷ []) item.key))
    (moves_of (log ++ work_entry v.number item (Move moved) ∷ []) item.key)
run-own tables book log v item moved here M becomes run =
    let node = node_of tables.laws v.peers in
    let e = work_entry v.number item (Move moved) in
    let number : number_for node (log ++ e ∷ []) item.key ≡ number_for node log item.key =
    number_for-own node log e item.key (keys-moved node v.number (home node.shards item.key.name) item moved refl) in
    let moves : moves_of (log ++ e ∷ []) item.key ≡ moves_of log item.key ++ moved ∷ [] =
    moves_of-snoc log e item.key ∙ ap (λ ms. moves_of log item.key ++ ms) (moves-own v.number item moved) in
    let before : moved.before ≡ state_at node log item.key = becomes.2.before_is ∙ sym (state-of node log v item.key M here) in
    rw (moves, number)
    (run_append tables.laws (table_of tables item.key.role) (start (number_for node log item.key)) (moves_of log item.key) (moved ∷ []) run (before, becomes.2.step, tt))

run-moved : (tables : Tables) (book : Book) (log : List Entry) (v : ShardView) (item : MachineItem) (moved : Moved) (key : Key) (b : Bool) → is_same_key key item.key ≡ b
    → home v.peers.shards item.key.name ≡ v.number → HasMachines (node_of tables.laws v.peers) log v → BecomesIn tables book v item (Move moved) → AreRuns tables v.peers log
    → IsRun tables.laws (table_of tables key.role) (start (number_for (node_of tables.laws v.peers) (log ++ work_entry v.number item (Move moved) ∷ []) key))
    (moves_of (log ++ work_entry v.number item (Move moved) ∷ []) key)
run-moved tables book log v item moved key true is here M becomes runs =
    let e = work_entry v.number item (Move moved) in
    subst (λ (k : Key). IsRun tables.laws (table_of tables k.role) (start (number_for (node_of tables.laws v.peers) (log ++ e ∷ []) k)) (moves_of (log ++ e ∷ []) k))
    (sym (key_sound key item.key is)) (run-own tables book log v item moved here M becomes (runs item.key))
run-moved tables book log v item moved key false is here M becomes runs =
    let node = node_of tables.laws v.peers in
    let e = work_entry v.number item (Move moved) in
    run-still tables v.peers log e key (moves-other v.number item (Move moved) key is)
    (number-or-none node log e item.key key (λ same. keys-moved node v.number (home node.shards key.name) item moved same) (λ apart. keys-other node v.number (home node.shards key.name) item (Move moved) apart))
    (runs key)

-- so what became of an item of the shard keeps all runs
pub runs-work : (tables : Tables) (book : Book) (log : List Entry) (v : ShardView) (item : MachineItem) (handled : Handled) → home v.peers.shards item.key.name ≡ v.number
    → HasMachines (node_of tables.laws v.peers) log v → BecomesIn tables book v item handled → AreRuns tables v.peers log
    → AreRuns tables v.peers (log ++ work_entry v.number item handled ∷ [])
runs-work tables book log v item TooBusy here M becomes runs =
    runs-still tables v.peers log (work_entry v.number item TooBusy) (λ shard. refl) (λ key. moves-busy v.number item key) runs
runs-work tables book log v item (Stale state) here M becomes runs = λ key.
    let node = node_of tables.laws v.peers in
    let e = work_entry v.number item (Stale state) in
    run-still tables v.peers log e key (moves-stale v.number item state key)
    (number-or-none node log e item.key key (λ same. keys-stale node v.number (home node.shards key.name) item state same) (λ apart. keys-other node v.number (home node.shards key.name) item (Stale state) apart))
    (runs key)
runs-work tables book log v item (Move moved) here M becomes runs = λ key.
    run-moved tables book log v item moved key (is_same_key key item.key) refl here M becomes runs
