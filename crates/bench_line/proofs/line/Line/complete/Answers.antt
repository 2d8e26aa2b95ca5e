use Rattle.std.proofs.Common.{◌∙◌, ap}
use Rattle.bench_line.specs.Rounds.{kept}
use Rattle.bench_line.specs.Talk.{meaning}
use Rattle.bench_line.proofs.ReceiveLemmas.{received_by}
use Rattle.bench_line.proofs.line.Line.complete.Goals as goal

pub returns-clause-stands : goal.returns-clause-stands
returns-clause-stands g c =
    let m = meaning g.T.Hears.heard g.T.Hears.turned g.T.Hears.octets_of c.args.rules.now in
    let f = c.in_ok-framer.field-0 in
    received_by m c.args.line c.args.self.now c.keep.new.self c.args.piece.now f.framer f.round f.ended c.in_ok-framer.ensures.heard
    (c.in_ok-framer-2.ensures.ok ∙ ap (λ framer. kept framer f.round c.args.self.now) c.in_ok-next.ensures.ok)
