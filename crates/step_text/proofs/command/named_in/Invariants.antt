use Rattle.std.proofs.Common.{◌≡◌, drop}
use Rattle.std.specs.List.{find}
use Rattle.std.specs.Str.{bytes_eq}
use Rattle.step_text.specs.Commands.{name_of}
use Rattle.step_text.proofs.command.named_in.Given as goal

-- none that was looked at has the name
abbrev pub invariant-loop-command : goal.invariant-loop-command
invariant-loop-command l = find (λ command. bytes_eq l.word (name_of command)) l.commands ≡ find (λ command. bytes_eq l.word (name_of command)) (drop l.command-index l.commands)
