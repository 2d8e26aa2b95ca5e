use Rattle.thread_node.specs.Nodes.{Does}
use Rattle.thread_node.proofs.node.ThreadNode.carry_each.Given as goal

-- items were carried and texts drawn so far, and nothing else
abbrev pub invariant-lines : goal.invariant-lines
invariant-lines g l = Does l.initial.self l.self l.carried
