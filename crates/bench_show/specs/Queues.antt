-- What waits in each outbox, hand and inbox.
use Rattle.std.specs.Prelude.{ℕ, ◌+◌, List, [], ◌∷◌, ◌++◌, codes, decimal, flat_map, length, if◌then◌else◌}
use Rattle.std.specs.List.{range_with_len}
use Rattle.bench_item.specs.declared.item.Item.{Item}
use Rattle.bench_item.specs.declared.item.Item.TheVariants.{ToMachine, ToLine, Dial, Undial, Arm, Disarm}
use Rattle.bench_item.specs.declared.item.MachineItem.{MachineItem}
use Rattle.bench_item.specs.declared.limit.TheConstants.{MAX_DESKS, MAX_SHARDS}
use Rattle.bench_item.specs.declared.source.Source.{Source}
use Rattle.bench_item.specs.declared.source.Source.TheVariants as from
use Rattle.bench_spec.specs.Lines.{openings}
use Rattle.bench_spec.specs.Refusal.{is_source}
use Rattle.bench_spec.specs.Taken.{Run, shown}
use Rattle.event_text.specs.Deeds.{deed_words}
use Rattle.step_text.specs.Lines.{behind, fact_words}
use Rattle.step_text.specs.Names as names
use Rattle.bench_show.specs.Timers.{machine_text}
use Rattle.bench_show.specs.declared.queues.Sort.{Sort}
use Rattle.bench_show.specs.declared.queues.Sort.TheVariants.{Line, Shard, Desk}

-- who puts items out
abbrev pub source_text : Source → List ℕ
source_text (from.Line line) = codes "line " ++ decimal line
source_text (from.Shard shard) = codes "shard " ++ decimal shard
source_text (from.Desk desk) = codes "desk " ++ decimal desk
source_text from.Clock = codes "clock"

-- ` KEY KIND N=V ..`: an event on its way to a machine, with the facts that aren't 0
abbrev pub event_text : Run → MachineItem → List ℕ
event_text run item =
    behind (names.shown (names.key_name item.key) ∷ [])
    ++ behind (names.kind_word (names.names_of run.settings.node.laws []) item.event.kind ∷ [])
    ++ behind (fact_words 0 item.event.facts)

-- an item: an event; ` line L DEED A ..`; ` KEY Dial GEN`, ` KEY Undial GEN`, ` KEY Arm GEN TICKS`, ` KEY Disarm`
abbrev pub item_text : Run → Item → List ℕ
item_text run (ToMachine item) = event_text run item
item_text run (ToLine item) = codes " line " ++ decimal item.line ++ codes " " ++ deed_words item.deed
item_text run (Dial peer generation) = machine_text run peer ++ codes " Dial " ++ decimal generation
item_text run (Undial peer generation) = machine_text run peer ++ codes " Undial " ++ decimal generation
item_text run (Arm machine generation ticks) =
    machine_text run machine ++ codes " Arm " ++ decimal generation ++ codes " " ++ decimal ticks
item_text run (Disarm machine) = machine_text run machine ++ codes " Disarm"

-- an item on a line of its own, behind who put it out and where it waits
abbrev pub waiting_line : Run → Source → List ℕ → Item → List ℕ
waiting_line run source place item = source_text source ++ place ++ item_text run item ++ codes "\n"

-- `shard S inbox KEY KIND N=V ..`: an event that waits at a shard
abbrev pub inbox_line : Run → ℕ → MachineItem → List ℕ
inbox_line run shard item = codes "shard " ++ decimal shard ++ codes " inbox" ++ event_text run item ++ codes "\n"

-- what waits at a shard to be handled; other sources have no inbox
abbrev pub inbox_text : Run → Source → List ℕ
inbox_text run (from.Shard shard) = flat_map (inbox_line run shard) ((shown run).inbox_of shard)
inbox_text run source = []

-- what a source has put out, what is in its hand, and what waits at it
abbrev pub waiting_text : Run → Source → List ℕ
waiting_text run source =
    flat_map (waiting_line run source (codes " outbox")) ((shown run).outbox_of source)
    ++ flat_map (waiting_line run source (codes " hand")) ((shown run).hand_of source)
    ++ inbox_text run source

-- the same, where the source is there
abbrev pub queue_text : Run → Source → List ℕ
queue_text run source = if is_source run.settings run.log source then waiting_text run source else []

-- the source at a place of its sort: lines are numbered from 1
abbrev pub source_at : Sort → ℕ → Source
source_at Line place = from.Line (place + 1)
source_at Shard place = from.Shard place
source_at Desk place = from.Desk place

-- of the first so many sources of a sort
unfoldable pub queues_to : Run → Sort → ℕ → List ℕ
queues_to run sort count = flat_map (λ place. queue_text run (source_at sort place)) (range_with_len 0 count)

-- of all sources: the lines that were opened, the shards, the desks, each by number, and the clock
abbrev pub queues_text : Run → List ℕ
queues_text run =
    queues_to run Line (length (openings run.log)) ++ queues_to run Shard MAX_SHARDS ++ queues_to run Desk MAX_DESKS
    ++ queue_text run from.Clock
