use Rattle.std.proofs.Common.{◌≡◌, ◌++◌, ◌-◌, take, map, replicate}
use Rattle.tab_law.specs.Values.{term_value}
use Rattle.tab_law.specs.declared.limits.TheConstants.{PLACES}
use Rattle.tab_law.proofs.act.set_arguments.Given as goal

abbrev pub invariant-loop-i : goal.invariant-loop-i
invariant-loop-i l = l.a ≡ map (term_value l.scene l.new) (take l.i l.terms) ++ replicate (PLACES - l.i) 0
