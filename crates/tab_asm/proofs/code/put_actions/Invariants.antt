use Rattle.std.proofs.Common.{◌≡◌, ◌++◌, map, take}
use Rattle.tab_asm.specs.Formats.{format_2, RunAction, code_of}
use Rattle.tab_asm.proofs.code.put_actions.Given as goal

abbrev pub invariant-loop-action : goal.invariant-loop-action
invariant-loop-action l =
    l.code.items ≡ l.fn.code.items ++ code_of format_2 (map RunAction (take l.action-index l.actions))
