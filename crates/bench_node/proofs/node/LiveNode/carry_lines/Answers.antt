use Rattle.std.proofs.Common.{◌∙◌}
use Rattle.bench_node.proofs.GoingLemmas.{goes_on}
use Rattle.bench_node.proofs.TimedLemmas.{timed_on}
use Rattle.bench_node.proofs.WentLemmas.{lines_more}
use Rattle.bench_node.proofs.node.LiveNode.carry_lines.Goals as goal

-- one connection more
pub lines-preserved : goal.lines-preserved
lines-preserved c =
    let one = c.in_ok-carry.ensures in
    record {
      goes = goes_on c.args.self.now c.lines.self c.carry.new.self c.lines.invariant.goes one.goes;
      same = one.same ∙ c.lines.invariant.same;
      timed = timed_on c.args.self.now c.lines.self c.args.timers.now c.lines.timers c.carry.new.self c.carry.new.timers c.lines.invariant.timed one.timed;
      went = lines_more c.lines.line c.lines.went c.in_ok-carry.field-0 c.either-went.result c.args.self.now c.lines.self c.carry.new.self c.either-went.ensures c.lines.invariant.went one.went;
    }
