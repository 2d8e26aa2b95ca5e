use Rattle.bench_line.specs.Talk.{meaning}
use Rattle.bench_line.proofs.ReceiveLemmas.{held_by}
use Rattle.bench_line.proofs.line.Line.receive.Goals as goal

pub returns-in-Some-clause-stands : goal.returns-in-Some-clause-stands
returns-in-Some-clause-stands g c =
    let m = meaning g.T.Hears.heard g.T.Hears.turned g.T.Hears.octets_of c.args.rules.now in
    held_by m c.args.line c.args.self.now c.hold.new.self c.args.piece.now (rw c.in-Some.is at c.in_ok-before.ensures.ok)
