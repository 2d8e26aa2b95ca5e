use Rattle.thread_node.specs.Nodes.{Does}
use Rattle.thread_node.proofs.node.ThreadNode.carry_line.Given as goal

-- items were carried and texts drawn so far, and nothing else
abbrev pub invariant-items : goal.invariant-items
invariant-items g l = Does l.initial.self l.self l.carried
