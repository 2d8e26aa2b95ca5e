-- A log of four entries on a shard that has all the machines that it may have: a desk tells a session Begin, and it
-- finds no room. The machines are those of 4,096 configured peers, more than a bench is opened with: so the log is
-- short.
use Rattle.std.specs.Prelude.{ℕ, zero, suc, ◌+◌, List, [], ◌∷◌, Some, None, codes, replicate}
use Rattle.bench_item.specs.declared.entry.Entry.{Entry}
use Rattle.bench_item.specs.declared.entry.Handled.TheVariants.{TooBusy}
use Rattle.bench_item.specs.declared.limit.TheConstants.{MAX_MACHINES}
use Rattle.bench_item.specs.declared.source.Source.TheVariants.{Desk}
use Rattle.bench_item.specs.declared.step.Step.TheVariants.{Drop, Lift, Told}
use Rattle.bench_spec.specs.ExampleLog.{carried}
use Rattle.bench_spec.specs.SessionLog.{event, laws, session, table, told, works}
use Rattle.bench_spec.specs.Settings.{Settings}

-- so many hosts, each one octet longer than the one before
unfoldable pub hosts : ℕ → ℕ → List (List ℕ)
hosts first zero = []
hosts first (suc count) = replicate first 0 ∷ hosts (first + 1) count

-- the bench of the session's log, with these peers
abbrev pub settings_with : List (List ℕ) → Settings
settings_with peers = record {
  node = record { laws = laws; peers = peers; shards = 1 };
  peer = table;
  client = table;
  server = table;
  identity = record { host = codes "n"; realm = codes "n"; address = 127 ∷ 0 ∷ 0 ∷ 1 ∷ [] };
  dictionary = [];
  default_units = 0;
  accounts = [];
  pages = 1;
  desks = 1;
}

unfoldable pub full : List (List ℕ)
full = hosts 0 MAX_MACHINES

abbrev pub log : List Entry
log =
    carried (Told 0 session (event 0)) None
    ∷ carried (Lift (Desk 0)) (Some (told 0))
    ∷ carried (Drop (Desk 0)) (Some (told 0))
    ∷ works (told 0) TooBusy
    ∷ []
