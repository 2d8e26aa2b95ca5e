use Rattle.bench_move.proofs.FitLemmas.{step-fits}
use Rattle.bench_move.proofs.roles.Roles.has_step.Goals as goal

pub returns-then-not-fits : goal.returns-then-not-fits
returns-then-not-fits c =
    (λ t. cc, λ s. let fit = step-fits c.args.self.now.laws c.ready-ready.result.now.bound.table c.args.moved.now.before c.args.moved.now.event c.args.moved.now.after c.args.moved.now.chain c.args.moved.now.deeds c.ready-ready.ensures.ready.table (rw c.ready-ready.ensures.table s.moves) in let no = c.if-not-fits.true in let yes = c.fits.ensures.1 fit in cc)
