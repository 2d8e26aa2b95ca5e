-- How a run ends whose words ask for nothing that is there.
use Rattle.std.specs.Prelude.{◌≡◌, ℕ, List, None, codes}
use Rattle.base_device.specs.declared.status.Status.{Status}
use Rattle.base_device.specs.declared.status.Status.TheVariants as statuses
use Rattle.cmd_words.specs.Words.{Wanted, Table, Live, Logged, Nothing}
use Rattle.cmd_words.specs.declared.words.NoWords.{NoWords}
use Rattle.cmd_words.specs.declared.words.NoWords.TheVariants as no_words
use Rattle.role_tables.specs.Roles.{table_named}

-- a command that asks for not one thing, for the table of a role that isn't there,
-- for nodes over TCP where no socket is, or for logs where none can be written
abbrev pub AsksInVain : Wanted → Type 0
AsksInVain Nothing = Unit {0}
AsksInVain (Table role) = table_named role ≡ None
AsksInVain (Live config host seconds log stats) = Unit {0}
AsksInVain (Logged folder quiet sent totals cut config script) = Unit {0}
AsksInVain other = ⊥

-- what is told where there are no words
abbrev pub no_words_text : NoWords → List ℕ
no_words_text no_words.NoMemory = codes "no memory\n"
no_words_text no_words.NotText = codes "a word isn't UTF-8\n"

-- and the status then
abbrev pub no_words_status : NoWords → Status
no_words_status no_words.NoMemory = statuses.NoMemory
no_words_status no_words.NotText = statuses.Usage
