use Rattle.bench_views.proofs.Opened.{IsLegal-order}
use Rattle.bench_views.proofs.Started.{order-none}
use Rattle.bench_views.proofs.law.legal_is_in_order.Goals as goal

pub returns : goal.returns
returns c = λ settings log legal. IsLegal-order settings log legal (order-none settings)
