-- What a bench keeps, and that it is what the log says.
use Rattle.std.specs.Prelude.{◌≡◌, ◌+◌, ℕ, suc, zero, List, length, Some, slice_get}
use Rattle.acct_book.specs.Book.{Book}
use Rattle.tick_wheel.specs.Timers.{ByOwner}
use Rattle.bench_item.specs.declared.entry.Entry.{Entry}
use Rattle.bench_item.specs.declared.source.Source.{Source}
use Rattle.bench_item.specs.declared.source.Source.TheVariants.{Clock, Desk, Line}
use Rattle.bench_line.specs.Line.{LineView}
use Rattle.bench_line.specs.Lines.{AreLinesAfter}
use Rattle.bench_line.specs.Talk.{Meaning, meaning}
use Rattle.bench_queue.specs.Outbox.{OutboxView}
use Rattle.bench_shard.specs.Stands.{Stands}
use Rattle.bench_shard.specs.View.{ShardView}
use Rattle.bench_spec.specs.Items.{dropped, lifted}
use Rattle.bench_spec.specs.Rules.{listening}
use Rattle.bench_spec.specs.Settings.{Settings}
use Rattle.line_message.specs.Heard.{heard}
use Rattle.line_message.specs.Sent.{message_octets}
use Rattle.line_message.specs.Turned.{turned}
use Rattle.bench_views.specs.LinePasts.{pasts_of}
use Rattle.bench_views.specs.Pages.{page_at}
use Rattle.bench_views.specs.Shards.{outbox_at}
use Rattle.bench_views.specs.Timers.{IsArmedSo}

-- what messages mean to the lines of a bench
abbrev pub meaning_of : Settings → Meaning
meaning_of settings = meaning heard turned (λ who item. message_octets who.identity item) (listening settings)

-- the parts of a bench: its shards; what the clock put out, and each desk;
-- its lines, and of each how many of its items were dropped; the pages of its account book; the timers that are armed
pub record Stored : Type 0 where
  pub shards : List ShardView
  pub outboxes : List OutboxView
  pub lines : List LineView
  pub carried : List ℕ
  pub books : List Book
  pub timers : ByOwner

-- the source that has the outbox at a place: the clock has the first, each desk the one behind that of its number
abbrev pub source_at : ℕ → Source
source_at zero = Clock
source_at (suc desk) = Desk desk

-- a fact of each item, by its place
abbrev pub EachAt : {X : Type 0} → (ℕ → X → Type 0) → List X → Type 0
EachAt {X} P xs = (k : ℕ) (x : X) → slice_get xs k ≡ Some x → P k x

-- the shard at a place has its number, and is what the log says
abbrev pub IsShardAt : Settings → List Entry → ℕ → ShardView → Type 0
IsShardAt settings log k v = (v.number ≡ k) × Stands settings log v

-- the parts are what the log says
pub record IsTied (settings : Settings) (log : List Entry) (s : Stored) : Type 0 where
  pub shard_count : length s.shards ≡ settings.node.shards
  pub shards : EachAt (IsShardAt settings log) s.shards
  pub outbox_count : length s.outboxes ≡ settings.desks + 1
  pub outboxes : EachAt (λ p v. v ≡ outbox_at settings log (source_at p)) s.outboxes
  pub lines : AreLinesAfter (meaning_of settings) s.lines (pasts_of log)
  pub lifted_of : EachAt (λ n l. l.lifted ≡ length (lifted log (Line (suc n)))) s.lines
  pub carried_count : length s.carried ≡ length s.lines
  pub carried_of : EachAt (λ n c. c ≡ length (dropped log (Line (suc n)))) s.carried
  pub book_count : length s.books ≡ settings.pages
  pub books : EachAt (λ k book. book ≡ page_at settings k log) s.books
  pub timers : IsArmedSo s.timers log
