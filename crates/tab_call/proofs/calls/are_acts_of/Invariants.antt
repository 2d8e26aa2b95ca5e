use Rattle.std.proofs.Common.{◌≡◌, take, map}
use Rattle.tab_call.proofs.calls.are_acts_of.Given as goal

abbrev pub invariant-loop-i : goal.invariant-loop-i
invariant-loop-i g l = map (λ stored. stored.law) (take l.i l.stored) ≡ map (λ entry. entry.value) (take l.i l.entries)
