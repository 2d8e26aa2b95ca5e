use Rattle.thread_node.specs.Nodes.{Loses}
use Rattle.thread_node.proofs.port.ThreadNodeNode.next_dial.Given as goal

-- connections were lost so far, and nothing else changed
abbrev pub invariant-loop-line : goal.invariant-loop-line
invariant-loop-line g l = Loses l.initial.self l.self
