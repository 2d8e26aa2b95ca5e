-- What words ask for, by what parsing them answers.
use Rattle.std.specs.Prelude.{◌≡◌, ◌≢◌, ◌⊎◌, List, [], option_map, Result, Ok, Err}
use Rattle.clap.specs.Words.{Text}
use Rattle.clap.specs.declared.error.kind.ErrorKind.{ErrorKind}
use Rattle.clap.specs.declared.error.kind.ErrorKind.TheVariants.{DisplayHelp, DisplayVersion, OutOfMemory}
use Rattle.cmd_words.specs.Words.{AreRefused, AskForText, Wanted, Read, Walk, Names, Table, Draw, Assemble, ListImage}
use Rattle.cmd_words.specs.Words.{Run, Debug, Sample, Live, Nothing, wanted, word_faults, Nodes, Logged}
use Rattle.cmd_words.specs.declared.words.Task.{Task}
use Rattle.cmd_words.specs.declared.words.Task.TheVariants as tasks
use Rattle.cmd_words.specs.declared.words.Invocation.{Invocation}
use Rattle.cmd_words.specs.declared.words.Invocation.TheVariants as asked
use Rattle.cmd_words.specs.declared.words.WordsError.{WordsError}
use Rattle.cmd_words.specs.declared.words.WordsError.TheVariants as errors

-- what a command asks for
abbrev pub meaning : Task → Wanted
meaning (tasks.Read style by_line dictionary file) =
    Read style by_line (option_map (λ name. name.now) dictionary) (option_map (λ name. name.now) file)
meaning (tasks.Walk why from table events) =
    Walk why (option_map (λ text. text.now) from) table.now (option_map (λ name. name.now) events)
meaning tasks.Names = Names
meaning (tasks.Table role) = Table role.now
meaning (tasks.Draw table) = Draw (option_map (λ name. name.now) table)
meaning (tasks.Assemble table) = Assemble (option_map (λ name. name.now) table)
meaning (tasks.ListImage image) = ListImage (option_map (λ name. name.now) image)
meaning (tasks.Run quiet sent totals config script) =
    Run quiet sent totals config.now (option_map (λ name. name.now) script)
meaning (tasks.Debug config script commands) =
    Debug config.now (option_map (λ name. name.now) script) (option_map (λ name. name.now) commands)
meaning (tasks.Nodes quiet sent totals cut config script) =
    Nodes quiet sent totals cut config.now (option_map (λ name. name.now) script)
meaning (tasks.Logged folder quiet sent totals cut config script) =
    Logged folder.now quiet sent totals cut config.now (option_map (λ name. name.now) script)
meaning tasks.Sample = Sample
meaning (tasks.Live config host seconds log stats) =
    Live config.now (option_map (λ name. name.now) host) (option_map (λ text. text.now) seconds)
    (option_map (λ name. name.now) log) stats
meaning (tasks.Nothing usage) = Nothing

-- a command where nothing is wrong, a text that is asked for, or a refusal where something is wrong
abbrev pub IsAsked : List Text → Result Invocation WordsError → Type 0
IsAsked words (Ok (asked.Task task)) = (word_faults words ≡ []) × (wanted words ≡ meaning task)
IsAsked words (Ok (asked.Text text)) = AskForText words
IsAsked words (Err errors.NoMemory) = Unit {0}
IsAsked words (Err (errors.Refused text)) = AreRefused words

-- what an error of a kind is answered with: the text that is asked for, or a refusal
abbrev pub IsRefusal : ErrorKind → Result Invocation WordsError → Type 0
IsRefusal kind (Ok (asked.Task task)) = ⊥
IsRefusal kind (Ok (asked.Text text)) = (kind ≡ DisplayHelp) ⊎ (kind ≡ DisplayVersion)
IsRefusal kind (Err errors.NoMemory) = Unit {0}
IsRefusal kind (Err (errors.Refused text)) = (kind ≢ DisplayHelp) × (kind ≢ DisplayVersion) × (kind ≢ OutOfMemory)
