use Rattle.std.proofs.Common.{◌≡◌}
use Rattle.thread_node.proofs.tell.board_of.Given as goal

-- it is a board of that world
abbrev pub invariant-keys : goal.invariant-keys
invariant-keys g l = l.board.core.now ≡ l.core
