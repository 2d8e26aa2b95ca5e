-- What a desk is to a contract, and why a tell or a look is refused.
use Rattle.std.specs.Prelude.{◌≡◌, ◌<◌, ◌≤◌, ◌+◌, ◌||◌, ℕ, not, nat_lt, Bool, List, [], ◌∷◌, ◌++◌}
use Rattle.std.specs.Prelude.{find, flat_map, length}
use Rattle.std.specs.Prelude.{option_map, slice_get, slice_index, unwrap_or, Option}
use Rattle.std.specs.Option.{option_and_then}
use Rattle.tab_step.specs.declared.machine.MachineState.{MachineState}
use Rattle.bench_item.specs.declared.key.Key.{Key}
use Rattle.bench_item.specs.declared.limit.TheConstants.{MAX_ENTRIES, MAX_SHARDS}
use Rattle.bench_shard.specs.View.{ShardView, place_in}
use Rattle.bench_spec.specs.Desks.{agrees, seen_count, told_count}
use Rattle.bench_spec.specs.Merged.{Kept, Look as Seen, entries_kept, not_there}
use Rattle.bench_spec.specs.Refusal.{may_tell}
use Rattle.bench_spec.specs.Settings.{Settings}
use Rattle.bench_move.specs.May.{may_look}
use Rattle.bench_desk.specs.Parts.{PartView, handled_from, is_full, waiting_from}
use Rattle.bench_desk.specs.declared.fault.DeskFault.{DeskFault}
use Rattle.bench_desk.specs.declared.fault.DeskFault.TheVariants.{Unknown, Full, Disagree}
use Rattle.bench_desk.specs.declared.look.Look.{Look}

-- a desk: its number, how many shards there are, and what it kept
pub record DeskView : Type 0 where
  pub number : ℕ
  pub shards : ℕ
  pub kept : List Kept

abbrev pub with_kept : DeskView → List Kept → DeskView
with_kept v more = record { number = v.number; shards = v.shards; kept = v.kept ++ more }

-- the counts that a desk keeps are those of what it kept: what it told each shard, and what it last saw handled there
pub record AreCounts (number shards : ℕ) (kept : List Kept) (told seen : List ℕ) : Type 0 where
  pub told_are : (settings : Settings) (s : ℕ) → settings.node.shards ≡ shards → s < MAX_SHARDS
      → slice_index told s ≡ told_count settings number kept s
  pub seen_are : (settings : Settings) (s : ℕ) → settings.node.shards ≡ shards → s < MAX_SHARDS
      → slice_index seen s ≡ seen_count settings kept s

-- the entries of a desk's part
abbrev pub entry_count : List Kept → ℕ
entry_count kept = length (flat_map entries_kept kept)

-- a desk is whole: there is a shard, few enough, its part has no more entries than it may, and its counts are right
pub record IsDesk (number shards : ℕ) (kept : List Kept) (entries : ℕ) (told seen : List ℕ) : Type 0 where
  pub some : 0 < shards
  pub few : shards ≤ MAX_SHARDS
  pub entries_are : entries ≡ entry_count kept
  pub within : entries ≤ MAX_ENTRIES
  pub each_told : length told ≡ MAX_SHARDS
  pub each_seen : length seen ≡ MAX_SHARDS
  pub below : (s : ℕ) → slice_index told s ≤ entries
  pub counts : AreCounts number shards kept told seen

-- the first of the reasons that holds
abbrev pub first_of : List (Bool × DeskFault) → Option DeskFault
first_of reasons = option_map (λ reason. reason.1) (find (λ reason. reason.0) reasons)

-- whether the desk's part has no room for a Told and its Lift
abbrev pub is_desk_full : List Kept → Bool
is_desk_full kept = nat_lt MAX_ENTRIES (entry_count kept + 2)

-- why a tell is refused, memory aside: there is no such machine or event; or no room in the shard, in its part or in
-- the desk's
abbrev pub tell_refusal : Settings → PartView → DeskView → Key → ℕ → Option DeskFault
tell_refusal settings part desk key kind =
    first_of ((not (may_tell settings key kind), Unknown) ∷ (is_full part || is_desk_full desk.kept, Full) ∷ [])

-- where a machine of the shard stands; one that is not there stands in state 0 with all registers 0
abbrev pub state_in : ShardView → Key → MachineState
state_in v key = unwrap_or (option_and_then (slice_get v.states) (place_in v key)) not_there

-- what a desk is told of a machine that it looks at: where it stands, and the desk's counts in its shard
abbrev pub look_at : PartView → ℕ → ℕ → Key → Seen
look_at part desk stamp key = record {
  stamp = stamp;
  key = key;
  stands = state_in part.shard key;
  waiting = waiting_from part desk;
  handled = handled_from part desk;
}

-- the same as the desk is answered it
abbrev pub seen_as : ℕ → Key → Look → Seen
seen_as stamp key look = record {
  stamp = stamp;
  key = key;
  stands = record { state = look.state; regs = look.regs };
  waiting = look.waiting;
  handled = look.handled;
}

-- why a look is refused, memory aside: there is no machine of that key that can be told, or the shard's counts
-- contradict the desk's own
abbrev pub look_refusal : Settings → PartView → DeskView → ℕ → Key → Option DeskFault
look_refusal settings part desk stamp key =
    first_of
    ((not (may_look part.shard.peers.hosts key), Unknown)
    ∷ (not (agrees settings desk.number desk.kept (look_at part desk.number stamp key)), Disagree) ∷ [])
