-- What a world is, by what it keeps.
use Rattle.std.specs.Prelude.{◌≡◌, ◌<◌, ◌≤◌, ℕ, Bool, List, map}
use Rattle.acct_book.specs.Book.{Paged}
use Rattle.bench_item.specs.Keys.{node_of}
use Rattle.bench_item.specs.declared.limit.TheConstants.{MAX_SHARDS}
use Rattle.bench_spec.specs.Rules.{listening}
use Rattle.bench_spec.specs.Settings.{Settings}
use Rattle.bench_spec.specs.Taken.{Run}
use Rattle.bench_views.specs.Stored.{EachAt, Stored}
use Rattle.bench_carry.specs.Placed.{ArePlaced}
use Rattle.bench_open.specs.Given.{opened_as}
use Rattle.bench_core.specs.Whole.{IsWhole}
use Rattle.bench_core.specs.declared.keeping.Core.TheInside.{Inside}

-- what the world was opened with
abbrev pub settings_in : Inside → Settings
settings_in w = record {
  node = node_of w.roles.laws w.lines.rules.peers;
  peer = w.roles.peer;
  client = w.roles.client;
  server = w.roles.server;
  identity = w.lines.rules.identity;
  dictionary = w.lines.rules.dictionary;
  default_units = w.lines.rules.default_units;
  accounts = map opened_as w.accounts.items;
  pages = w.page_count;
  desks = w.desk_count;
}

-- its parts
abbrev pub stored_in : Inside → Stored
stored_in w = record {
  shards = w.shards.items;
  outboxes = map (λ o. o.view) w.outboxes.items;
  lines = w.lines.lines;
  carried = w.carried.items;
  books = map (λ p. p.book) w.pages.items;
  timers = w.wheel.armed;
}

-- which of its shards are paused
abbrev pub paused_in : Inside → List Bool
paused_in w = map (λ v. v.paused) w.shards.items

-- what it is to a contract
abbrev pub run_in : Inside → Run
run_in w = record { settings = settings_in w; log = w.log.entries; paused = paused_in w }

-- a page has its number, of so many
abbrev pub IsPageAt : ℕ → ℕ → Paged → Type 0
IsPageAt count k page = (page.number ≡ k) × (page.pages ≡ count)

-- a world has a shard, and at most so many
abbrev pub IsShardCount : ℕ → Type 0
IsShardCount count = (0 < count) × (count ≤ MAX_SHARDS)

-- the world is whole, its lines listen as its settings say, each page has its number, it has a page and a shard, and
-- the wheel has places for all timers that are set again where steps are taken back
pub record IsSound (w : Inside) : Type 0 where
  pub whole : IsWhole (settings_in w) w.log.entries (stored_in w) w.undo.records
  pub listens : w.lines.rules ≡ listening (settings_in w)
  pub pages : EachAt (IsPageAt w.page_count) w.pages.items
  pub paged : 0 < w.page_count
  pub shards : IsShardCount w.lines.rules.peers.shards
  pub placed : ArePlaced w.wheel w.undo.records
