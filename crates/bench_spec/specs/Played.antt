-- A log played from a list of steps: each step with the entry that it makes where every action picks the greatest
-- number that its law allows. Examples are made so: a plain program, which looks at the whole log at each step.
use Rattle.std.specs.Prelude.{ℕ, ◌++◌, List, [], ◌∷◌, filter_map, flat_map, map, Option, None, Some, option_map}
use Rattle.std.specs.Prelude.{option_to_list, slice_get, slice_index, if◌then◌else◌}
use Rattle.std.specs.List.{range_with_len}
use Rattle.std.specs.Option.{option_map_or}
use Rattle.base_list.specs.Named.{entry_of}
use Rattle.tab_law.specs.Acts.{emitted, highest, last_of}
use Rattle.tab_law.specs.Books.{Laws}
use Rattle.tab_law.specs.declared.law.Change.{Change}
use Rattle.tab_law.specs.declared.limits.TheConstants.{PLACES}
use Rattle.tab_law.specs.declared.scene.Deed.{Deed}
use Rattle.tab_law.specs.declared.scene.Scene.{Scene}
use Rattle.tab_step.specs.declared.machine.Event.{Event}
use Rattle.tab_step.specs.declared.machine.MachineState.{MachineState}
use Rattle.tab_step.specs.Moves.{end_of, name_at, row_taken, scene_of, unlisted}
use Rattle.tab_text.specs.Contents.{Contents}
use Rattle.tab_text.specs.declared.row.Row.{Row}
use Rattle.bench_item.specs.declared.entry.Entry.{Entry}
use Rattle.bench_item.specs.declared.entry.Handled.{Handled}
use Rattle.bench_item.specs.declared.entry.Handled.TheVariants.{Move, Stale, TooBusy}
use Rattle.bench_item.specs.declared.entry.Moved.{Moved}
use Rattle.bench_item.specs.declared.item.Item.{Item}
use Rattle.bench_item.specs.declared.item.Item.TheVariants.{ToMachine}
use Rattle.bench_item.specs.declared.item.MachineItem.{MachineItem}
use Rattle.bench_item.specs.declared.step.Step.{Step}
use Rattle.bench_item.specs.declared.step.Step.TheVariants.{Drop, Fired, Lift, Work}
use Rattle.bench_spec.specs.Booked.{book_at, event_with_quote, outcomes_for, want_of}
use Rattle.bench_spec.specs.Items.{firing, hand, inbox, outbox}
use Rattle.bench_spec.specs.Legal.{finds_no_room, is_met}
use Rattle.bench_spec.specs.Machines.{key_numbered, number_for, state_at}
use Rattle.bench_spec.specs.Settings.{Settings, table_of}

-- the registers that an action leaves, each as great as its law allows
abbrev pub highest_regs : List Change → Scene → List ℕ
highest_regs law scene = map (λ n. highest scene (last_of n law) (slice_index scene.regs n)) (range_with_len 0 PLACES)

-- the laws of a row's actions, in order
abbrev pub laws_of_row : Laws → Contents → Row → List (List Change)
laws_of_row laws table row =
    filter_map (λ action. option_map (λ entry. entry.value) (entry_of (name_at table.actions action) laws.acts))
    row.actions

-- the registers after each action
abbrev pub chain_of : List ℕ → List ℕ → List (List Change) → List (List ℕ)
chain_of facts regs [] = []
chain_of facts regs (law ∷ laws) =
    highest_regs law (scene_of regs facts) ∷ chain_of facts (highest_regs law (scene_of regs facts)) laws

-- the deeds of all of them
abbrev pub deeds_of : List ℕ → List ℕ → List (List Change) → List Deed
deeds_of facts regs [] = []
deeds_of facts regs (law ∷ laws) =
    emitted law (scene_of regs facts) (highest_regs law (scene_of regs facts))
    ++ deeds_of facts (highest_regs law (scene_of regs facts)) laws

-- what a machine's move by a row comes to: its number, state after it, registers and deeds
pub record Played : Type 0 where
  pub row : Option ℕ
  pub after : MachineState
  pub chain : List (List ℕ)
  pub deeds : List Deed

abbrev pub played_by : Laws → Contents → MachineState → Event → Option (ℕ × Row) → Played
played_by laws table state event None =
    record { row = None; after = state; chain = []; deeds = unlisted event.facts ∷ [] }
played_by laws table state event (Some numbered) = record {
  row = Some numbered.0;
  after = record {
    state = numbered.1.next;
    regs = end_of state.regs (chain_of event.facts state.regs (laws_of_row laws table numbered.1));
  };
  chain = chain_of event.facts state.regs (laws_of_row laws table numbered.1);
  deeds = deeds_of event.facts state.regs (laws_of_row laws table numbered.1);
}

abbrev pub played : Laws → Contents → MachineState → Event → Played
played laws table state event = played_by laws table state event (row_taken table laws state event)

-- the move of the machine that an item is for, where it stands so
abbrev pub move_with : Settings → List Entry → MachineItem → MachineState → Event → Played → Moved
move_with settings past item state event p = record {
  machine = number_for settings.node past item.key;
  event = event;
  before = state;
  after = p.after;
  row = p.row;
  chain = p.chain;
  deeds = p.deeds;
  outcomes = outcomes_for (book_at settings past) (want_of settings.node.laws item state) p.deeds;
}

abbrev pub move_from : Settings → List Entry → MachineItem → MachineState → Event → Moved
move_from settings past item state event =
    move_with settings past item state event (played settings.node.laws (table_of settings item.key.role) state event)

abbrev pub move_of : Settings → List Entry → MachineItem → Moved
move_of settings past item =
    move_from settings past item (state_at settings.node past item.key)
    (event_with_quote (book_at settings past) (want_of settings.node.laws item (state_at settings.node past item.key))
    item.event)

-- what becomes of an item that is handled
abbrev pub handled_as : Settings → List Entry → MachineItem → Handled
handled_as settings past item =
    if finds_no_room settings past item.key then TooBusy
    else (if is_met settings past item then Move (move_of settings past item)
    else Stale (state_at settings.node past item.key).state)

-- the entry that a step makes
abbrev pub entry_from : Settings → List Entry → Step → Option Item → Option MachineItem → Entry
entry_from settings past step carried worked = record {
  step = step;
  item = option_map_or (λ item. Some (ToMachine item)) worked carried;
  handled = option_map (handled_as settings past) worked;
}

abbrev pub entry_by : Settings → List Entry → Step → Entry
entry_by settings past (Fired machine generation) =
    entry_from settings past (Fired machine generation)
    (slice_get (flat_map (firing settings.node generation) (option_to_list (key_numbered settings.node past machine)))
    0) None
entry_by settings past (Lift source) =
    entry_from settings past (Lift source) (slice_get (outbox settings past source) 0) None
entry_by settings past (Drop source) = entry_from settings past (Drop source) (slice_get (hand past source) 0) None
entry_by settings past (Work shard) =
    entry_from settings past (Work shard) None (slice_get (inbox settings.node past shard) 0)
entry_by settings past step = entry_from settings past step None None

-- the log of a list of steps
abbrev pub play : Settings → List Entry → List Step → List Entry
play settings past [] = past
play settings past (step ∷ steps) = play settings (past ++ entry_by settings past step ∷ []) steps
