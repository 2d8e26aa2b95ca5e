use Rattle.std.proofs.Common.{sym}
use Rattle.bench_desk.proofs.WorkLemmas.{next_waits}
use Rattle.bench_desk.proofs.work.next_post.Goals as goal

pub unreachable-requires : goal.unreachable-requires
unreachable-requires c = next_waits c.args.shard.now.outbox c.requires (sym c.in-None.ensures)
