use Rattle.thread_node.specs.Nodes.{Does}
use Rattle.thread_node.proofs.node.ThreadNode.draw.Given as goal

-- items were carried and texts drawn so far, and nothing else
abbrev pub invariant-pieces : goal.invariant-pieces
invariant-pieces g l = Does l.initial.self l.self l.drawn
