-- What an item finds that is carried, by what a world keeps, and what stays where one is.
use Rattle.std.proofs.Common.{◌≡◌, ℕ, zero, suc, List, [], ◌∷◌, ◌++◌, Bool, Some, refl, ◌∙◌, ap}
use Rattle.std.specs.Prelude.{map, slice_get}
use Rattle.bench_item.specs.Keys.{node_of}
use Rattle.bench_item.specs.declared.entry.Entry.{Entry}
use Rattle.bench_item.specs.declared.source.Source.{Source}
use Rattle.bench_item.specs.declared.source.Source.TheVariants.{Clock, Desk, Line, Shard}
use Rattle.bench_queue.specs.Outbox.{OutboxState, OutboxView}
use Rattle.bench_shard.specs.View.{ShardView}
use Rattle.bench_spec.specs.Settings.{Settings}
use Rattle.bench_spec.specs.Taken.{Run}
use Rattle.line_message.specs.Hearing.{Hearing}
use Rattle.tick_wheel.specs.Timers.{Timers}
use Rattle.bench_undo.specs.declared.undo.Undo.{Undo}
use Rattle.bench_undo.specs.declared.undo.Undo.TheVariants as undos
use Rattle.bench_views.specs.Behind.{changed_at, lifted_from}
use Rattle.bench_views.specs.Stored.{Stored}
use Rattle.bench_views.proofs.Distinct.{Each-append}
use Rattle.bench_views.proofs.Each.{some-same}
use Rattle.bench_carry.specs.Placed.{ArePlaced, IsPlaced}
use Rattle.bench_carry.specs.Seen.{views_of}
use Rattle.bench_carry.specs.Undone.{BooksNothing}
use Rattle.bench_open.specs.Given.{opened_as}
use Rattle.bench_core.specs.Inside.{settings_in}
use Rattle.bench_core.specs.Whole.{IsWhole, MayUndo}
use Rattle.bench_core.specs.declared.keeping.Core.TheInside.{Inside}

-- the outbox that is kept where one is seen
pub record IsKept (outs : List OutboxState) (place : ℕ) (v : OutboxView) : Type 0 where
  pub o : OutboxState
  pub there : slice_get outs place ≡ Some o
  pub view : o.view ≡ v

pub kept_at : (outs : List OutboxState) (place : ℕ) (v : OutboxView) → slice_get (views_of outs) place ≡ Some v → IsKept outs place v
kept_at [] place v is = absurd cc
kept_at (o ∷ outs) zero v is = record { o = o; there = refl; view = some-same o.view v is }
kept_at (o ∷ outs) (suc place) v is =
    let rest = kept_at outs place v is in
    record { o = rest.o; there = rest.there; view = rest.view }

-- a record that takes nothing off the book may be applied
pub may_undo-unbooked : (undo : Undo) (s : Stored) → BooksNothing undo → MayUndo undo s
may_undo-unbooked undos.Opened s nothing = tt
may_undo-unbooked (undos.Lines change) s nothing = tt
may_undo-unbooked (undos.Told desk) s nothing = tt
may_undo-unbooked (undos.Fired machine old posted) s nothing = tt
may_undo-unbooked (undos.Lifted source) s nothing = tt
may_undo-unbooked (undos.Dropped source arrival) s nothing = tt
may_undo-unbooked (undos.Worked shard change page booked) s nothing = absurd nothing

-- timers that are set again have their places, that of one more record too
pub placed-more : (wheel : Timers) (undos : List Undo) (undo : Undo) → ArePlaced wheel undos → IsPlaced wheel undo → ArePlaced wheel (undos ++ undo ∷ [])
placed-more wheel undos undo placed one = Each-append (IsPlaced wheel) undos (undo ∷ []) placed (one, tt)

-- where places only came to be
pub placed-still : (wheel other : Timers) (undos : List Undo) → ((undo : Undo) → IsPlaced wheel undo → IsPlaced other undo) → ArePlaced wheel undos → ArePlaced other undos
placed-still wheel other [] still placed = tt
placed-still wheel other (undo ∷ undos) still placed = (still undo placed.0, placed-still wheel other undos still placed.1)

-- the settings of a world whose lines have these rules
abbrev pub settings_with : Inside → Hearing → Settings
settings_with w rules = record {
  node = node_of w.roles.laws rules.peers;
  peer = w.roles.peer;
  client = w.roles.client;
  server = w.roles.server;
  identity = rules.identity;
  dictionary = rules.dictionary;
  default_units = rules.default_units;
  accounts = map opened_as w.accounts.items;
  pages = w.page_count;
  desks = w.desk_count;
}

pub settings-same : (w : Inside) (rules : Hearing) → rules ≡ w.lines.rules → settings_with w rules ≡ settings_in w
settings-same w rules same = ap (settings_with w) same

-- which of the shards are paused
abbrev pub pauses : List ShardView → List Bool
pauses shards = map (λ v. v.paused) shards

pub pauses-changed : (place : ℕ) (f : ShardView → ShardView) (shards : List ShardView) → ((v : ShardView) → (f v).paused ≡ v.paused)
    → pauses (changed_at place f shards) ≡ pauses shards
pauses-changed place f [] same = refl
pauses-changed zero f (v ∷ shards) same = ap (λ b. b ∷ pauses shards) (same v)
pauses-changed (suc place) f (v ∷ shards) same = ap (λ bs. v.paused ∷ bs) (pauses-changed place f shards same)

pub pauses-lifted : (source : Source) (s : Stored) → pauses (lifted_from source s).shards ≡ pauses s.shards
pauses-lifted (Line line) s = refl
pauses-lifted (Shard shard) s = pauses-changed shard _ s.shards (λ v. refl)
pauses-lifted (Desk desk) s = refl
pauses-lifted Clock s = refl

-- a run by its parts
abbrev pub run_by : Settings → List Entry → List Bool → Run
run_by settings log paused = record { settings = settings; log = log; paused = paused }

pub run-same : (settings others : Settings) (log logged : List Entry) (paused halted : List Bool) → settings ≡ others → log ≡ logged → paused ≡ halted
    → run_by settings log paused ≡ run_by others logged halted
run-same settings others log logged paused halted e f g =
    ap (λ x. run_by x log paused) e ∙ ap (λ x. run_by others x paused) f ∙ ap (run_by others logged) g

-- a whole world, told otherwise
pub whole-same : (settings others : Settings) (log logged : List Entry) (s new : Stored) (undos records : List Undo) → others ≡ settings → logged ≡ log → new ≡ s
    → records ≡ undos → IsWhole settings log s undos → IsWhole others logged new records
whole-same settings others log logged s new undos records e f g h whole = rw (e, f, g, h) whole
