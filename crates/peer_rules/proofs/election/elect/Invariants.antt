use Rattle.peer_rules.specs.Election.{lowered}
use Rattle.peer_rules.proofs.ElectionLemmas.{Agrees}
use Rattle.peer_rules.proofs.election.elect.Given as goal

abbrev pub invariant-loop-i : goal.invariant-loop-i
invariant-loop-i l = Agrees l.i (lowered l.local) (lowered l.remote)
