-- Callbacks that are made each have the laws of all roles.
use Rattle.live_turns.proofs.LawLemmas.{each_has, each_same}

pub ruleset same_laws = (each_has, each_same)
