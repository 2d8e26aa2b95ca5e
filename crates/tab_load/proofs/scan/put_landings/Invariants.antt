use Rattle.std.proofs.Common.{◌≡◌, ◌++◌, ◌∷◌, false, replicate}
use Rattle.tab_load.specs.Code.{instruction_of, is_landing}
use Rattle.tab_load.proofs.scan.put_landings.Given as goal

abbrev pub invariant-loop : goal.invariant-loop
invariant-loop l = l.out.items ≡ l.fn.out.items ++ is_landing (instruction_of l.fn.step) ∷ replicate l.counter false
