use Rattle.thread_node.proofs.DoingLemmas.{does_on}
use Rattle.thread_node.proofs.node.ThreadNode.carry_line.Goals as goal

pub returns-then-not-matches : goal.returns-then-not-matches
returns-then-not-matches g c = does_on _ _ _ c.items.carried _ c.items.invariant c.carry_both-left.ensures

pub items-preserved : goal.items-preserved
items-preserved g c = does_on _ _ _ c.items.carried _ c.items.invariant c.carry_both-left.ensures
