-- What it makes of the parts of a bench that an item is dropped where it is for.
use Rattle.std.specs.Prelude.{◌≡◌, ◌++◌, ◌∷◌, ℕ, List, [], None, Some, length, map}
use Rattle.bench_item.specs.Keys.{home}
use Rattle.bench_item.specs.Lines.{Delivered, Undialled}
use Rattle.bench_item.specs.declared.item.Item.{Item}
use Rattle.bench_item.specs.declared.item.Item.TheVariants.{Arm, Dial, Disarm, ToLine, ToMachine, Undial}
use Rattle.bench_item.specs.declared.opening.Opening.TheVariants as openings
use Rattle.bench_item.specs.declared.source.Source.{Source}
use Rattle.bench_line.specs.Line.{LineView}
use Rattle.bench_line.specs.Lines.{Past, AreLinesAfter, one_more, opened, with_step}
use Rattle.bench_line.specs.Talk.{Meaning, meaning}
use Rattle.bench_queue.specs.Outbox.{OutboxState}
use Rattle.bench_shard.specs.View.{ShardView}
use Rattle.line_message.specs.Heard.{heard}
use Rattle.line_message.specs.Hearing.{Hearing}
use Rattle.line_message.specs.Sent.{message_octets}
use Rattle.line_message.specs.Turned.{turned}
use Rattle.tick_wheel.specs.Timers.{ByOwner, with_timer}
use Rattle.bench_views.specs.Behind.{came_to, dropped_from}
use Rattle.bench_views.specs.Stored.{Stored}
use Rattle.bench_carry.specs.Seen.{views_of}

-- what messages mean to lines on which this one listens
abbrev pub meaning_to : Hearing → Meaning
meaning_to who = meaning heard turned (λ h item. message_octets h.identity item) who

-- the parts with these shards, outboxes, lines, counts of what was dropped of each line, and timers
abbrev pub with_parts : Stored → List ShardView → List OutboxState → List LineView → List ℕ → ByOwner → Stored
with_parts s shards outboxes lines carried timers = record s {
  shards = shards;
  outboxes = views_of outboxes;
  lines = lines;
  carried = carried;
  timers = timers;
}

-- the parts with these shards, lines, counts and timers
abbrev pub with_arrived : Stored → List ShardView → List LineView → List ℕ → ByOwner → Stored
with_arrived s shards lines carried timers = record s {
  shards = shards;
  lines = lines;
  carried = carried;
  timers = timers;
}

-- the lines go on so, and of each as many items are lifted as before
pub record LinesGoOn (m : Meaning) (old new : List LineView) (go : List Past → List Past) : Type 0 where
  pub stands : (pasts : List Past) → AreLinesAfter m old pasts → AreLinesAfter m new (go pasts)
  pub counts : map (λ l. l.lifted) new ≡ map (λ l. l.lifted) old

-- one more line is there, of which nothing was lifted
pub record OneLineMore (m : Meaning) (old new : List LineView) (peer generation : ℕ) : Type 0 where
  pub stands : (pasts : List Past) → AreLinesAfter m old pasts
      → AreLinesAfter m new (opened (openings.Dialled peer generation) pasts)
  pub counts : map (λ l. l.lifted) new ≡ map (λ l. l.lifted) old ++ 0 ∷ []

-- The item came where it is for: an event to the inbox of its machine's shard, a deed to its line, a dial to the lines,
-- where it opens or closes one, a timer to the wheel.
abbrev pub Arrives : Meaning → Item → Stored → Stored → Type 0
Arrives m (ToMachine item) old new = new ≡ came_to (home (length old.shards) item.key.name) item old
Arrives m (ToLine item) old new =
    (lines : List LineView) × LinesGoOn m old.lines lines (with_step item.line (Delivered item))
    × (new ≡ record old { lines = lines })
Arrives m (Dial peer generation) old new =
    (lines : List LineView) × OneLineMore m old.lines lines peer generation
    × (new ≡ record old { lines = lines; carried = old.carried ++ 0 ∷ [] })
Arrives m (Undial peer generation) old new =
    (lines : List LineView) × LinesGoOn m old.lines lines (map (one_more (Undialled peer generation)))
    × (new ≡ record old { lines = lines })
Arrives m (Arm machine generation ticks) old new =
    (due : ℕ)
    × (new ≡ record old {
      timers = with_timer old.timers machine (Some (record { generation = generation; due = due }));
    })
Arrives m (Disarm machine) old new = new ≡ record old { timers = with_timer old.timers machine None }

-- the item left the hand of the source, and came where it is for
abbrev pub DropsTo : Meaning → Source → Item → Stored → Stored → Type 0
DropsTo m source (ToMachine item) old new =
    new ≡ came_to (home (length old.shards) item.key.name) item (dropped_from source old)
DropsTo m source (ToLine item) old new =
    (lines : List LineView) × LinesGoOn m old.lines lines (with_step item.line (Delivered item))
    × (new ≡ record (dropped_from source old) { lines = lines })
DropsTo m source (Dial peer generation) old new =
    (lines : List LineView) × OneLineMore m old.lines lines peer generation
    × (new ≡ record (dropped_from source old) { lines = lines; carried = (dropped_from source old).carried ++ 0 ∷ [] })
DropsTo m source (Undial peer generation) old new =
    (lines : List LineView) × LinesGoOn m old.lines lines (map (one_more (Undialled peer generation)))
    × (new ≡ record (dropped_from source old) { lines = lines })
DropsTo m source (Arm machine generation ticks) old new =
    (due : ℕ)
    × (new ≡ record (dropped_from source old) {
      timers = with_timer old.timers machine (Some (record { generation = generation; due = due }));
    })
DropsTo m source (Disarm machine) old new =
    new ≡ record (dropped_from source old) { timers = with_timer old.timers machine None }
