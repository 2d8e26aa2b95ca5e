use Rattle.std.proofs.Common.{◌≡◌, ◌++◌, take}
use Rattle.step_text.specs.Names.{shown}
use Rattle.step_text.proofs.name.put_shown.Given as goal

-- the octets so far are put
abbrev pub invariant-loop-c : goal.invariant-loop-c
invariant-loop-c l = l.out.items ≡ l.initial.out.items ++ shown (take l.c-index l.name)
