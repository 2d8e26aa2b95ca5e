use Rattle.std.proofs.Common.{[]}
use Rattle.bench_live.specs.Started.{desk_at_start}
use Rattle.bench_live.proofs.EndedLemmas.{more-behind}
use Rattle.bench_live.proofs.start.open_desks.Goals as goal

pub loop-number-preserved : goal.loop-number-preserved
loop-number-preserved g c =
    more-behind (λ d. d.desk) (desk_at_start c.args.shards) [] c.loop-number.number c.loop-number.desks.items
    c.push.new.self.items (record { desk = c.new-desk.result; shared = c.in_ok-shared.shared }) c.loop-number.invariant
    c.new-desk.ensures c.in_ok-push.ensures.items
