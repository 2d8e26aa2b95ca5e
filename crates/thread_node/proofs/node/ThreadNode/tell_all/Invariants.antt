use Rattle.thread_node.specs.Nodes.{Does}
use Rattle.thread_node.proofs.node.ThreadNode.tell_all.Given as goal

-- desks told so far
abbrev pub invariant-desks : goal.invariant-desks
invariant-desks g l = Does l.initial.self l.self l.told
