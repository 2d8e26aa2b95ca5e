-- In a legal log items are carried and handled in their order.
use Rattle.std.proofs.Common.{List}
use Rattle.bench_item.specs.declared.entry.Entry.{Entry}
use Rattle.bench_spec.specs.Items.{InOrder}
use Rattle.bench_spec.specs.Legal.{IsLegal}
use Rattle.bench_spec.specs.Settings.{Settings}
use Rattle.bench_views.proofs.Opened.{IsLegal-order}
use Rattle.bench_views.proofs.Started.{order-none}

pub legal_order : (settings : Settings) (log : List Entry) → IsLegal settings log → InOrder settings log
legal_order settings log legal = IsLegal-order settings log legal (order-none settings)
