-- Which of two is of a side.
use Rattle.peer_rules.specs.declared.event.Side.{Side}
use Rattle.peer_rules.specs.declared.event.Side.TheVariants.{I, R}

-- the first for the initiator's side, the second for the responder's
abbrev pub either : {T : Type 0} → Side → T → T → T
either I initiator responder = initiator
either R initiator responder = responder
