use Rattle.std.proofs.Common.{◌∙◌, ap, sym}
use Rattle.bench_queue.specs.Inbox.{next_in}
use Rattle.bench_desk.specs.Parts.{PartView}
use Rattle.bench_desk.proofs.WorkLemmas.{task_waits}
use Rattle.bench_desk.proofs.part.ShardPart.task.Goals as goal

pub unreachable-requires : goal.unreachable-requires
unreachable-requires c =
    task_waits c.args.self.now (sym c.work_refusal.ensures ∙ c.in_default.is)
    (sym (ap (λ (v : PartView). next_in v.shard.inbox) c.self.view_is) ∙ c.in_ok-task.ensures.none.0 c.in-None.is)
