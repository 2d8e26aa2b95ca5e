use Rattle.std.proofs.Common.{not, true}
use Rattle.bench_net.specs.Pipes.{loss_waiting, waiting}
use Rattle.bench_net.proofs.HandLemmas.{HandsOn-lost, waits, waits-lost}
use Rattle.bench_net.proofs.settle.lose.Goals as goal

-- the loss waits behind what waited, and is handed on with it
pub returns-clause-handed : goal.returns-clause-handed
returns-clause-handed g c =
    let pipe = c.args.pipe.now in
    HandsOn-lost g.P.Port.takes g.P.Port.refuses g.P.Port.sent c.args.port.now c.settle.new.port
    (waiting pipe) (waits pipe.kept pipe.room true) (waiting c.settle.new.pipe) (loss_waiting (not pipe.losing))
    (waits-lost pipe.kept pipe.room pipe.losing) c.settle.ensures.handed
