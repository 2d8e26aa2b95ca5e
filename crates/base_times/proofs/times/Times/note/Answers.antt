use Rattle.std.proofs.Common.{◌<◌, ◌^◌, arith}
use Rattle.base_times.proofs.PercentileLemmas.{one_more}
use Rattle.base_times.proofs.times.Times.note.Goals as goal

pub returns-clause-one_more : goal.returns-clause-one_more
returns-clause-one_more c = λ times are few.
    let fits : c.args.time < 2 ^ 64 = omega arith in
    rw c.put.ensures (one_more c.args.self.now times c.args.time fits are few)
