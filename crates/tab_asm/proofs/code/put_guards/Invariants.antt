use Rattle.std.proofs.Common.{◌≡◌, ◌++◌, map, take}
use Rattle.tab_asm.specs.Formats.{format_2, TestGuard, code_of}
use Rattle.tab_asm.proofs.code.put_guards.Given as goal

abbrev pub invariant-loop-guard : goal.invariant-loop-guard
invariant-loop-guard l =
    l.code.items ≡ l.fn.code.items ++ code_of format_2 (map (λ guard. TestGuard guard l.otherwise) (take l.guard-index l.guards))
