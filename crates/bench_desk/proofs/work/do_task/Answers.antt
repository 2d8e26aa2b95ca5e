use Rattle.std.proofs.Common.{subst}
use Rattle.bench_desk.specs.Working.{IsWritten}
use Rattle.bench_desk.proofs.work.do_task.Goals as goal

-- The page's book stays as it is where the work is found out.
pub returns-clause-ok : goal.returns-clause-ok
returns-clause-ok g c =
    let done = subst
    (λ p. IsWritten c.in_ok-work.work c.args.stamp c.args.shard.now c.write.new.shard p c.write.new.page c.args.log.now.entries
    c.write.new.log.entries c.args.stamps.now.items c.write.new.stamps.items)
    c.in_ok-work.ensures.page c.in_ok-write.ensures.ok
    in
    record {
      work = c.in_ok-work.work;
      decided = c.in_ok-work.ensures.work;
      written = record { shard_is = done.shard_is; page_is = done.page_is; log_is = done.log_is; stamps_are = done.stamps_are };
    }
