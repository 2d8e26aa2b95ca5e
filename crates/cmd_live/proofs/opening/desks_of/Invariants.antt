use Rattle.std.proofs.Common.{take}
use Rattle.cmd_live.specs.Lives.{AreDesksFrom}
use Rattle.cmd_live.proofs.opening.desks_of.Given as goal

-- the desks so far
abbrev pub invariant-desks : goal.invariant-desks
invariant-desks l = AreDesksFrom l.node.turns 0 (take l.number l.configs) l.desks.items
