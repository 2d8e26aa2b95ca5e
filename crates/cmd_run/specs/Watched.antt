-- Which words ask for a quiet run.
use Rattle.std.specs.Prelude.{true, option_map}
use Rattle.cmd_words.specs.Words.{Wanted, Run}
use Rattle.cmd_run.specs.declared.watched.QuietWords.{QuietWords}

-- what these words ask for
abbrev pub quiet_wanted : QuietWords → Wanted
quiet_wanted words = Run true words.sent words.totals words.config.now (option_map (λ name. name.now) words.script)

-- this asks for a quiet run of one node
abbrev pub AskForQuiet : Wanted → Type 0
AskForQuiet (Run true sent totals config script) = Unit {0}
AskForQuiet asked = ⊥
