-- The command of a line.
use Rattle.std.specs.Prelude.{ℕ, List, [], ◌∷◌, Option, Some, None, Result, Ok, Err}
use Rattle.text_parts.specs.Words.{Word, words}
use Rattle.debug_text.specs.Breaks.{break_from, read_as}
use Rattle.debug_text.specs.Tables.{Tables}
use Rattle.debug_text.specs.Verbs.{verb_of}
use Rattle.debug_text.specs.Words.{one_key, one_number, row_of}
use Rattle.debug_text.specs.declared.command.Command.{Command}
use Rattle.debug_text.specs.declared.command.Command.TheVariants as commands
use Rattle.debug_text.specs.declared.command.CommandFault.{CommandFault}
use Rattle.debug_text.specs.declared.command.CommandFault.TheVariants.{UnknownCommand, NoSuchMachine}
use Rattle.debug_text.specs.declared.verb.Verb.{Verb}
use Rattle.debug_text.specs.declared.verb.Verb.TheVariants.{Step, Back, Go, ReverseGo, Goto, Break, Clear, Show}
use Rattle.debug_text.specs.declared.verb.Verb.TheVariants.{ListRow, TotalsOf, Where, Help, History, Why, Queues}
use Rattle.debug_text.specs.declared.verb.Verb.TheVariants.{Timers, Lines, Sent, Accounts}

-- a command without words behind it
abbrev pub alone : Command → List Word → Result Command CommandFault
alone command [] = Ok command
alone command (word ∷ others) = Err UnknownCommand

-- the command of a verb and the words behind it; of a machine that is to be shown the word may be no key
unfoldable pub command_by : Tables → Verb → List Word → Result Command CommandFault
command_by tables Step words = alone commands.Step words
command_by tables Back words = alone commands.Back words
command_by tables Go words = alone commands.Go words
command_by tables ReverseGo words = alone commands.ReverseGo words
command_by tables Goto words = read_as (λ place. commands.Goto place) (one_number words)
command_by tables Break words = read_as (λ breakpoint. commands.Break breakpoint) (break_from tables words)
command_by tables Clear words = read_as (λ number. commands.Clear number) (one_number words)
command_by tables Show words = read_as (λ key. commands.Show key) (one_key NoSuchMachine words)
command_by tables ListRow words = read_as (λ at. commands.ListRow at.0 at.1) (row_of words)
command_by tables TotalsOf words = read_as (λ account. commands.TotalsOf account) (one_number words)
command_by tables Where words = alone commands.Where words
command_by tables Help words = alone commands.Help words
command_by tables History words = read_as (λ key. commands.History key) (one_key NoSuchMachine words)
command_by tables Why words = read_as (λ key. commands.Why key) (one_key NoSuchMachine words)
command_by tables Queues words = alone commands.Queues words
command_by tables Timers words = alone commands.Timers words
command_by tables Lines words = alone commands.Lines words
command_by tables Sent words = read_as (λ line. commands.Sent line) (one_number words)
command_by tables Accounts words = alone commands.Accounts words

abbrev pub command_with : Tables → Option Verb → List Word → Result Command CommandFault
command_with tables None words = Err UnknownCommand
command_with tables (Some verb) words = command_by tables verb words

abbrev pub command_from : Tables → List Word → Result Command CommandFault
command_from tables [] = Err UnknownCommand
command_from tables (verb ∷ words) = command_with tables (verb_of verb.octets) words

-- the command of a line, or why it is none: an unknown word or form before a bad number
unfoldable pub command_of : Tables → List ℕ → Result Command CommandFault
command_of tables line = command_from tables (words line)
