use Rattle.std.proofs.Common.{[]}
use Rattle.bench_net.specs.Pipes.{waiting}
use Rattle.bench_net.proofs.HandLemmas.{HandsOn-trans}
use Rattle.bench_net.proofs.settle.settle.Goals as goal

-- the piece was handed on, and then the loss
pub returns-clause-handed : goal.returns-clause-handed
returns-clause-handed g c =
    HandsOn-trans g.P.Port.takes g.P.Port.refuses g.P.Port.sent c.args.port.now c.settle_piece.new.port c.settle_loss.new.port
    (waiting c.args.pipe.now) (waiting c.settle_piece.new.pipe) (waiting c.settle_loss.new.pipe) [] [] c.settle_piece.ensures.handed c.settle_loss.ensures.handed
