use Rattle.bench_line.proofs.FeedLemmas.{fault_shown}
use Rattle.bench_line.proofs.round.fed.Goals as goal

pub returns-in-Err-Fault-clause-shows : goal.returns-in-Err-Fault-clause-shows
returns-in-Err-Fault-clause-shows c =
    fault_shown c.args.framer.now c.feed.new.self c.args.piece.now c.in-Err-Fault.field-0 c.in-Err-Fault.fault c.in-Err-Fault.field-0-is c.in-Err-Fault.ensures.feeds c.in-Err-Fault.ensures.joined
