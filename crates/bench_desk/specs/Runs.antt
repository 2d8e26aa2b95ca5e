-- What the machines of a shard did, by its part of the log.
use Rattle.std.specs.Prelude.{List}
use Rattle.bench_item.specs.Keys.{Configured, node_of}
use Rattle.bench_item.specs.declared.entry.Entry.{Entry}
use Rattle.bench_item.specs.declared.key.Key.{Key}
use Rattle.bench_move.specs.Tables.{Tables, table_of}
use Rattle.bench_spec.specs.Legal.{IsRun}
use Rattle.bench_spec.specs.Machines.{moves_of, number_for, start}

-- of every machine the moves are a run of its role's table, from its start
abbrev pub AreRuns : Tables → Configured → List Entry → Type 0
AreRuns tables peers log = (key : Key) →
    IsRun tables.laws (table_of tables key.role) (start (number_for (node_of tables.laws peers) log key))
    (moves_of log key)
