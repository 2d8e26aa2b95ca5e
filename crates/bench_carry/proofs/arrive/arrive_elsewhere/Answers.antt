use Rattle.bench_carry.proofs.DropLemmas.{undone-within}
use Rattle.bench_carry.proofs.arrive.arrive_elsewhere.Goals as goal

pub returns-in-ToLine-clause-undone : goal.returns-in-ToLine-clause-undone
returns-in-ToLine-clause-undone c =
    undone-within c.deliver.result (λ s. record s { lines = c.deliver.new.lines.lines }) (λ s. record s { lines = c.args.lines.now.lines })
    (λ s. record s { shards = c.args.shards.now; carried = c.args.carried.now.items; timers = c.args.wheel.now.armed })
    c.deliver.ensures.undone

pub returns-in-Dial-clause-undone : goal.returns-in-Dial-clause-undone
returns-in-Dial-clause-undone c =
    undone-within c.open_line.result (λ s. record s { lines = c.open_line.new.lines.lines; carried = c.open_line.new.carried.items })
    (λ s. record s { lines = c.args.lines.now.lines; carried = c.args.carried.now.items })
    (λ s. record s { shards = c.args.shards.now; timers = c.args.wheel.now.armed })
    c.open_line.ensures.undone

pub returns-in-Undial-clause-undone : goal.returns-in-Undial-clause-undone
returns-in-Undial-clause-undone c =
    undone-within c.close_line.result (λ s. record s { lines = c.close_line.new.lines.lines })
    (λ s. record s { lines = c.args.lines.now.lines })
    (λ s. record s { shards = c.args.shards.now; carried = c.args.carried.now.items; timers = c.args.wheel.now.armed })
    c.close_line.ensures.undone

pub returns-in-Arm-clause-undone : goal.returns-in-Arm-clause-undone
returns-in-Arm-clause-undone c =
    undone-within c.arm.result (λ s. record s { timers = c.arm.new.wheel.armed }) (λ s. record s { timers = c.args.wheel.now.armed })
    (λ s. record s { shards = c.args.shards.now; lines = c.args.lines.now.lines; carried = c.args.carried.now.items })
    c.arm.ensures.undone

pub returns-in-Disarm-clause-undone : goal.returns-in-Disarm-clause-undone
returns-in-Disarm-clause-undone c =
    λ s. c.disarm.ensures.undone
    (record s { shards = c.args.shards.now; lines = c.args.lines.now.lines; carried = c.args.carried.now.items })
