-- Which words ask for logs.
use Rattle.std.specs.Prelude.{option_map}
use Rattle.cmd_words.specs.Words.{Wanted, Logged}
use Rattle.cmd_run.specs.declared.logged.LogWords.{LogWords}

-- what these words ask for
abbrev pub wanted_by : LogWords → Wanted
wanted_by words =
    Logged words.folder.now words.quiet words.sent words.totals words.cut words.config.now
    (option_map (λ name. name.now) words.script)

-- this asks for logs
abbrev pub AskForLogs : Wanted → Type 0
AskForLogs (Logged folder quiet sent totals cut config script) = Unit {0}
AskForLogs asked = ⊥
