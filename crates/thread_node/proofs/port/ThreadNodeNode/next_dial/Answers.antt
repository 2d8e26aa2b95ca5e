use Rattle.std.proofs.Common.{arith, subst}
use Rattle.thread_node.specs.Nodes.{Loses}
use Rattle.thread_node.proofs.MovingLemmas.{loses_on}
use Rattle.thread_node.proofs.port.ThreadNodeNode.next_dial.Goals as goal

-- lines are looked at from 1 on; those before it that could be dialled nowhere were lost
pub returns-in-Some-clause-told : goal.returns-in-Some-clause-told
returns-in-Some-clause-told g c =
    let line = c.in-Some.ensures.line in
    let from = c.loop-line.auto.line in
    let first = c.saturating_add-line.ensures in (
      omega (arith, line, from, first),
      loses_on c.args.self.now c.loop-line.self c.dial_of.new.self c.loop-line.invariant
          (subst (λ node. Loses node c.dial_of.new.self) c.self-in-loop-line.view_is c.dial_of.ensures.lost),
    )
