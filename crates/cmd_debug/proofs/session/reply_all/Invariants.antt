use Rattle.std.proofs.Common.{map, take}
use Rattle.bench_debug.specs.Seen.{seen}
use Rattle.bench_script.specs.Ran.{IsRunBy}
use Rattle.cmd_debug.specs.Sessions.{IsSession}
use Rattle.cmd_debug.proofs.session.reply_all.Given as goal

-- the commands of the lines so far were done, and this is printed of them
abbrev pub invariant-lines : goal.invariant-lines
invariant-lines g l =
    IsSession (seen l.initial.debugger) (seen l.debugger) (take l.line-index l.lines) l.text.items
    × IsRunBy (seen l.debugger).world (map (λ r. r.book) l.registries)
