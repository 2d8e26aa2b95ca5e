-- What the parts of a bench in threads are when it is opened.
use Rattle.std.specs.Prelude.{◌≡◌, ◌<◌, ◌≤◌, ℕ, List, [], length, map}
use Rattle.std.specs.List.{AllByRecursion, range_with_len}
use Rattle.acct_book.specs.Book.{Paged}
use Rattle.bench_start.specs.Starting.{pages_at_start}
use Rattle.bench_desk.specs.Parts.{PartView}
use Rattle.bench_item.specs.Keys.{Configured, peers_of}
use Rattle.bench_item.specs.declared.limit.TheConstants.{MAX_SHARDS}
use Rattle.bench_move.specs.Tables.{Tables}
use Rattle.bench_queue.specs.Outbox.{nothing_out}
use Rattle.bench_shard.specs.View.{opened}
use Rattle.bench_spec.specs.Settings.{Settings}
use Rattle.line_message.specs.Hearing.{hearing}
use Rattle.live_parts.specs.Clocks.{ClockView}
use Rattle.live_parts.specs.LineParts.{LinesPartView}
use Rattle.tab_law.specs.Books.{Laws}

-- the tables and laws of a bench
abbrev pub tables_of : Settings → Tables
tables_of s = record { laws = s.node.laws; peer = s.peer; client = s.client; server = s.server }

-- a shard's part, and those of all shards
abbrev pub shard_at_start : Tables → Configured → ℕ → PartView
shard_at_start tables peers number = record { tables = tables; shard = opened number peers; entries = [] }

abbrev pub shards_at_start : Tables → Configured → ℕ → List PartView
shards_at_start tables peers count = map (shard_at_start tables peers) (range_with_len 0 count)

-- nothing happened to any of them: they have no entries, pages have their accounts,
-- nobody is connected and no timer is armed
pub record AreOpened (s : Settings) (shards : List PartView) (pages : List Paged) (lines : LinesPartView)
    (clock : ClockView) (desks : ℕ) : Type 0 where
  pub shards_are : shards ≡ shards_at_start (tables_of s) (peers_of s.node) s.node.shards
  pub pages_are : pages ≡ pages_at_start s.pages s.accounts
  pub lines_are : lines ≡ record {
    rules = hearing s.identity s.dictionary (peers_of s.node) s.default_units s.node.laws;
    lines = [];
    entries = [];
  }
  pub clock_is : clock ≡ record {
    laws = s.node.laws;
    moment = 0;
    keys = [];
    places = [];
    outbox = nothing_out;
    entries = [];
  }
  pub desks_are : desks ≡ s.desks

-- the shards and the registries have the same laws, and there are as many of them, at least one and few enough
pub record Agree (shards : List PartView) (books : List Laws) : Type 0 where
  pub laws : Laws
  pub of_shards : AllByRecursion (λ p. p.tables.laws ≡ laws) shards
  pub of_books : AllByRecursion (λ book. book ≡ laws) books
  pub each : length books ≡ length shards

abbrev pub AreFew : List PartView → Type 0
AreFew shards = (0 < length shards) × (length shards ≤ MAX_SHARDS)
