-- What holds of each legal log.
use Rattle.std.specs.Prelude.{List}
use Rattle.bench_item.specs.declared.entry.Entry.{Entry}
use Rattle.bench_spec.specs.Items.{InOrder}
use Rattle.bench_spec.specs.Legal.{IsLegal}
use Rattle.bench_spec.specs.Settings.{Settings}

-- in a legal log items are carried from each source, and handled in each shard, in their order
abbrev pub LegalIsInOrder : Type 0
LegalIsInOrder = (settings : Settings) (log : List Entry) → IsLegal settings log → InOrder settings log
