use Rattle.std.proofs.Common.{subst, ap, ◌∙◌}
use Rattle.bench_item.specs.declared.hears.Heard.{Heard}
use Rattle.bench_line.specs.Line.{LineView}
use Rattle.bench_line.specs.Rounds.{IsRound}
use Rattle.bench_line.specs.Talk.{meaning}
use Rattle.bench_line.proofs.ReceiveLemmas.{heard_by}
use Rattle.bench_line.proofs.line.Line.listen.Goals as goal

pub returns-clause-heard : goal.returns-clause-heard
returns-clause-heard g c =
    let m = meaning g.T.Hears.heard g.T.Hears.turned g.T.Hears.octets_of c.args.rules.now in
    heard_by m c.args.line c.args.self.now c.args.piece.now c.in_ok-framer.framer c.fed.new.framer c.of_frames.new.framer c.in_ok-fault.fault c.in_ok-round.round c.end.new.self c.in_ok-ended.ended
    (c.in_ok-framer.ensures ∙ ap (λ (l : LineView). l.framer) c.self.view_is) c.in_ok-fault.ensures.shows (subst (λ (at : Heard). IsRound m at c.fed.new.framer.waiting c.in_ok-round.round) c.found.ensures c.in_ok-round.ensures.round) c.in_ok-round.ensures.heard c.in_ok-ended.ensures.ok
