use Rattle.std.proofs.Common.{◌≡◌, ◌++◌, take}
use Rattle.config_text.specs.Told.{written}
use Rattle.config_text.proofs.told.put_written.Given as goal

-- the characters so far are put
abbrev pub invariant-loop-c : goal.invariant-loop-c
invariant-loop-c l = l.out.items ≡ l.initial.out.items ++ written (take l.c-index l.name)
