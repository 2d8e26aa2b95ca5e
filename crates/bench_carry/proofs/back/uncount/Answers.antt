use Rattle.std.proofs.Common.{◌-◌, sym}
use Rattle.bench_carry.proofs.BackLemmas.{changed-past, set-within}
use Rattle.bench_carry.proofs.back.uncount.Goals as goal

pub returns-then-place-carried : goal.returns-then-place-carried
returns-then-place-carried c =
    set-within c.args.carried.now c.args.place c.saturating_sub.result _ (λ n. n - 1) c.if-place-carried.true c.saturating_sub.ensures

pub returns-else-place-carried : goal.returns-else-place-carried
returns-else-place-carried c = sym (changed-past c.args.place (λ n. n - 1) c.args.carried.now c.if-place-carried.false)
