use Rattle.std.proofs.Common.{map}
use Rattle.bench_parts.specs.Views.{kept_in}
use Rattle.bench_live.specs.Ended.{kept_by}
use Rattle.bench_live.proofs.EndedLemmas.{more-behind}
use Rattle.bench_live.proofs.lend.lend_desks.Goals as goal

pub loop-number-preserved : goal.loop-number-preserved
loop-number-preserved c =
    more-behind kept_in (kept_by c.args.desks.now) (map kept_in c.args.lent.now.items) c.loop-number.number c.loop-number.lent.items c.push.new.self.items
    c.lend_desk.result c.loop-number.invariant c.lend_desk.ensures c.in_ok-push.ensures.items
