use Rattle.std.proofs.Common.{sym, ap, ◌∙◌}
use Rattle.bench_line.specs.Rounds.{RoundView}
use Rattle.bench_line.specs.Talk.{meaning}
use Rattle.bench_line.proofs.RoundLemmas.{pushed, so_far-on, round-of_closed}
use Rattle.bench_line.proofs.round.Round.of_frames.Goals as goal

pub returns-then-round-clause-round : goal.returns-then-round-clause-round
returns-then-round-clause-round g c =
    let m = meaning g.T.Hears.heard g.T.Hears.turned g.T.Hears.octets_of c.args.rules.now in
    round-of_closed m c.args.at c.args.framer.now c.next_frame.new.self c.hear.new.self
    (pushed m c.args.at c.args.framer.now c.loop-frame.framer c.next_frame.new.self c.in-Some.frame c.as_slice.result.now c.loop-frame.round c.hear.new.self c.loop-frame.invariant c.in-Some.ensures.oldest c.as_slice.ensures c.in_ok-hear.ensures.ok)
    (sym (ap (λ (r : RoundView). r.closed) c.round.view_is) ∙ c.if-round.true)

pub loop-frame-preserved : goal.loop-frame-preserved
loop-frame-preserved g c =
    let m = meaning g.T.Hears.heard g.T.Hears.turned g.T.Hears.octets_of c.args.rules.now in
    so_far-on m c.args.at c.args.framer.now c.next_frame.new.self c.hear.new.self
    (pushed m c.args.at c.args.framer.now c.loop-frame.framer c.next_frame.new.self c.in-Some.frame c.as_slice.result.now c.loop-frame.round c.hear.new.self c.loop-frame.invariant c.in-Some.ensures.oldest c.as_slice.ensures c.in_ok-hear.ensures.ok)
    (sym (ap (λ (r : RoundView). r.closed) c.round.view_is) ∙ c.if-round.false)
