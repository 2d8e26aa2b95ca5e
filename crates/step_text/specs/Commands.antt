-- The first word of a line.
use Rattle.std.specs.Prelude.{ℕ, List, Option, Some, None, codes, if◌then◌else◌}
use Rattle.std.specs.Str.{bytes_eq}
use Rattle.bench_item.specs.declared.step.Step.{Step}
use Rattle.bench_item.specs.declared.step.Step.TheVariants as step
use Rattle.step_text.specs.declared.command.Command.{Command}
use Rattle.step_text.specs.declared.command.Command.TheVariants.{Join, Dialled, Came, Lost, Told, Fired}
use Rattle.step_text.specs.declared.command.Command.TheVariants.{Lift, Drop, Work}

abbrev pub name_of : Command → List ℕ
name_of Join = codes "join"
name_of Dialled = codes "dialled"
name_of Came = codes "came"
name_of Lost = codes "lost"
name_of Told = codes "told"
name_of Fired = codes "fired"
name_of Lift = codes "lift"
name_of Drop = codes "drop"
name_of Work = codes "work"

-- the command of a word
abbrev pub command_of : List ℕ → Option Command
command_of word =
    if bytes_eq word (codes "join") then Some Join
    else if bytes_eq word (codes "dialled") then Some Dialled
    else if bytes_eq word (codes "came") then Some Came
    else if bytes_eq word (codes "lost") then Some Lost
    else if bytes_eq word (codes "told") then Some Told
    else if bytes_eq word (codes "fired") then Some Fired
    else if bytes_eq word (codes "lift") then Some Lift
    else if bytes_eq word (codes "drop") then Some Drop
    else if bytes_eq word (codes "work") then Some Work
    else None

-- the command of a step
abbrev pub which : Step → Command
which step.Joined = Join
which (step.Dialled line) = Dialled
which (step.Came line piece) = Came
which (step.Lost line) = Lost
which (step.Told desk key event) = Told
which (step.Fired machine generation) = Fired
which (step.Lift source) = Lift
which (step.Drop source) = Drop
which (step.Work shard) = Work
