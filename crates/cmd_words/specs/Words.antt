-- Which words on the command line are understood, in the words of `clap`, and what they ask for.
use Rattle.std.specs.Prelude.{◌≢◌, ◌⊎◌, ℕ, Bool, true, false, List, Option, Some, None, codes, nat_lt, if◌then◌else◌}
use Rattle.std.specs.Option.{option_map_or}
use Rattle.std.specs.Str.{bytes_eq}
use Rattle.base_text.specs.Numbers.{number_of}
use Rattle.clap.specs.Words.{App, IsAmong, Kinds, Row, Rule, Text, fault_of, first_of, new_app, new_rule}
use Rattle.clap.specs.Words.{subcommand_of, with_rule, with_subcommand}
use Rattle.clap.specs.Simple.{on_top}
use Rattle.clap.specs.declared.builder.action.ArgAction.TheVariants.{SetTrue}
use Rattle.clap.specs.declared.error.kind.ErrorKind.{ErrorKind}
use Rattle.clap.specs.declared.error.kind.ErrorKind.TheVariants.{DisplayHelp, DisplayVersion}
use Rattle.msg_input.specs.declared.style.Style.{Style}
use Rattle.msg_input.specs.declared.style.Style.TheVariants.{Plain, Explained, Json}

-- a flag, whose name is also its identifier
abbrev pub flag_rule : Text → Rule
flag_rule name = record (new_rule name) { long = Some name; action = Some SetTrue }

-- an option with a value
abbrev pub option_rule : (id name : Text) → Rule
option_rule id name = record (new_rule id) { long = Some name }

-- `read`, with one FILE at most, with each of these flags or without, and with the file of a dictionary or without
abbrev pub read_app : App
read_app = with_rule (with_rule (with_rule (with_rule (with_rule (new_app (codes "read")) (new_rule (codes "FILE")))
    (flag_rule (codes "explain"))) (flag_rule (codes "json"))) (flag_rule (codes "lines")))
    (option_rule (codes "DICT") (codes "dict"))

-- `walk`, with TABLE and EVENTS, `--why` and `--from`, or `--names`, or `--table NAME`
abbrev pub walk_app : App
walk_app = with_rule
    (with_rule (with_rule (with_rule (with_rule (with_rule (new_app (codes "walk")) (new_rule (codes "TABLE")))
    (new_rule (codes "EVENTS"))) (flag_rule (codes "why"))) (option_rule (codes "FROM") (codes "from")))
    (flag_rule (codes "names"))) (option_rule (codes "NAME") (codes "table"))

-- `draw`, with one TABLE at most
abbrev pub draw_app : App
draw_app = with_rule (new_app (codes "draw")) (new_rule (codes "TABLE"))

-- `asm`, with one TABLE at most
abbrev pub asm_app : App
asm_app = with_rule (new_app (codes "asm")) (new_rule (codes "TABLE"))

-- `list`, with one FILE at most
abbrev pub list_app : App
list_app = with_rule (new_app (codes "list")) (new_rule (codes "FILE"))

-- `run`, with CONFIG and SCRIPT
abbrev pub run_values : App
run_values = with_rule (with_rule (new_app (codes "run")) (new_rule (codes "CONFIG"))) (new_rule (codes "SCRIPT"))

-- and `--quiet`, `--sent` and `--totals`
abbrev pub run_flags : App
run_flags = with_rule (with_rule (with_rule run_values (flag_rule (codes "quiet"))) (flag_rule (codes "sent")))
    (flag_rule (codes "totals"))

-- and `--nodes` with `--cut` and `--log`
abbrev pub nodes_flags : App
nodes_flags =
    with_rule (with_rule (with_rule run_flags (flag_rule (codes "nodes"))) (option_rule (codes "N") (codes "cut")))
    (option_rule (codes "DIR") (codes "log"))

-- or `--sample`
abbrev pub run_app : App
run_app = with_rule nodes_flags (flag_rule (codes "sample"))

-- `dbench`, with a version, of which a command is required: `read` and `walk`
abbrev pub walking_app : App
walking_app =
    with_subcommand (with_subcommand (on_top (λ s. record s { has_version = true; subcommand_required = true })
    (new_app (codes "dbench"))) read_app.top) walk_app.top

-- the same, and what else is done with a table and with its image: `draw`, `asm` and `list`
abbrev pub table_app : App
table_app = with_subcommand (with_subcommand (with_subcommand walking_app draw_app.top) asm_app.top) list_app.top

-- `debug`, with CONFIG and SCRIPT, and `--run FILE`
abbrev pub debug_app : App
debug_app =
    with_rule (with_rule (with_rule (new_app (codes "debug")) (new_rule (codes "CONFIG"))) (new_rule (codes "SCRIPT")))
    (option_rule (codes "FILE") (codes "run"))

-- `live`, with CONFIG, `--node`, `--seconds`, `--log` and `--stats`
abbrev pub live_app : App
live_app =
    with_rule (with_rule (with_rule (with_rule (with_rule (new_app (codes "live")) (new_rule (codes "CONFIG")))
    (option_rule (codes "HOST") (codes "node")))
    (option_rule (codes "SECONDS") (codes "seconds"))) (option_rule (codes "DIR") (codes "log")))
    (flag_rule (codes "stats"))

-- the same, and what is done with a node by a script: `run`
abbrev pub running_app : App
running_app = with_subcommand table_app run_app.top

-- the same, and by commands: `debug`
abbrev pub debugging_app : App
debugging_app = with_subcommand running_app debug_app.top

-- the same, and what is done with nodes over TCP: `live`
abbrev pub dbench_app : App
dbench_app = with_subcommand debugging_app live_app.top

-- what is wrong with the words, or which text they ask for; nothing where they are a command
unfoldable pub word_faults : List Text → Kinds
word_faults words = fault_of dbench_app words

-- what a command asks for: messages in a style, each line by itself or not, by the dictionary of a file or without
-- one, of this file or of standard input; a walk, which says why or doesn't, from where it is told or from the start,
-- of a table over events of a file or of standard input; the names that tables may use; the table of a role; the
-- graph or the image of a table of a file or of standard input; what such an image holds, in words; a run, which is
-- quiet or not, and tells what was sent and the totals or not, of a node over a script of a file or of standard
-- input; a debugger on a node, over a script or none, with the commands of a file or of standard input; a small
-- CONFIG; that nodes live, those of a file or the one of a host, for so many seconds or not, with their logs written
-- to a folder or not, and with a line a second or not; or not one thing
pub data Wanted : Type 0 where
  Read : Style → Bool → (dictionary file : Option Text) → Wanted
  Walk : (why : Bool) → (from : Option Text) → (table : Text) → (events : Option Text) → Wanted
  Names : Wanted
  Table : Text → Wanted
  Draw : Option Text → Wanted
  Assemble : Option Text → Wanted
  ListImage : Option Text → Wanted
  Run : (quiet sent totals : Bool) → (config : Text) → (script : Option Text) → Wanted
  Debug : (config : Text) → (script commands : Option Text) → Wanted
  Nodes : (quiet sent totals : Bool) → (cut : ℕ) → (config : Text) → (script : Option Text) → Wanted
  Logged : (folder : Text) → (quiet sent totals : Bool) → (cut : ℕ) → (config : Text) → (script : Option Text) → Wanted
  Sample : Wanted
  Live : (config : Text) → (host seconds log : Option Text) → (stats : Bool) → Wanted
  Nothing : Wanted

-- what `walk` asks for: by its flags `names` and `why`, NAME, FROM, TABLE and EVENTS
abbrev pub walk_wanted : (names why : Bool) → (role from table events : Option Text) → Wanted
walk_wanted true false None None None None = Names
walk_wanted false false (Some role) None None None = Table role
walk_wanted false why None from (Some table) events = Walk why from table events
walk_wanted names why role from table events = Nothing

-- what `run` asks for: by its flags, CONFIG and SCRIPT
abbrev pub run_wanted : (sample quiet sent totals : Bool) → (config script : Option Text) → Wanted
run_wanted true false false false None None = Sample
run_wanted false quiet sent totals (Some config) script = Run quiet sent totals config script
run_wanted sample quiet sent totals config script = Nothing

-- what `debug` asks for: by CONFIG, SCRIPT and the file of commands
abbrev pub debug_wanted : (config script commands : Option Text) → Wanted
debug_wanted (Some config) script commands = Debug config script commands
debug_wanted None script commands = Nothing

-- what `live` asks for: by CONFIG, HOST, SECONDS, DIR and its flag
abbrev pub live_wanted : (config host seconds log : Option Text) → (stats : Bool) → Wanted
live_wanted None host seconds log stats = Nothing
live_wanted (Some config) host seconds log stats = Live config host seconds log stats

-- in pieces of how many octets: without `--cut` of no fewer than there can be, and else of one at least
abbrev pub positive : Option ℕ → Option ℕ
positive None = None
positive (Some size) = if nat_lt 0 size then Some size else None

abbrev pub cut_of : Option Text → Option ℕ
cut_of None = Some 18446744073709551615
cut_of (Some text) = positive (number_of text)

-- what `run --nodes` asks for: a run of all nodes, whose octets come in pieces of so many
abbrev pub nodes_wanted : (sample quiet sent totals : Bool) → (cut : Option ℕ) → (config script : Option Text) → Wanted
nodes_wanted false quiet sent totals (Some cut) (Some config) script = Nodes quiet sent totals cut config script
nodes_wanted sample quiet sent totals cut config script = Nothing

-- what goes without `--cut` alone
abbrev pub uncut : Option Text → Wanted → Wanted
uncut None wanted = wanted
uncut (Some text) wanted = Nothing

-- the same with `--log`: of a run of all nodes, whose logs are written into a folder
abbrev pub logged : Option Text → Wanted → Wanted
logged None wanted = wanted
logged (Some folder) (Nodes quiet sent totals cut config script) = Logged folder quiet sent totals cut config script
logged (Some folder) wanted = Nothing

-- a flag that was given has this value
abbrev pub is_given : Option Text → Bool
is_given value = option_map_or (λ text. bytes_eq text (codes "true")) value false

-- what `read` asks for: by its flags `explain` and `json`, of which one at most makes sense, `lines`,
-- the file of a dictionary, and FILE
abbrev pub read_wanted : (explain json by_line : Bool) → (dictionary file : Option Text) → Wanted
read_wanted false false by_line dictionary file = Read Plain by_line dictionary file
read_wanted true false by_line dictionary file = Read Explained by_line dictionary file
read_wanted false true by_line dictionary file = Read Json by_line dictionary file
read_wanted true true by_line dictionary file = Nothing

-- what `run` asks for, by what stands behind it
abbrev pub one_in : List Row → Wanted
one_in rows =
    run_wanted (is_given (first_of (codes "sample") rows)) (is_given (first_of (codes "quiet") rows))
    (is_given (first_of (codes "sent") rows))
    (is_given (first_of (codes "totals") rows))
    (first_of (codes "CONFIG") rows)
    (first_of (codes "SCRIPT") rows)

-- what `debug` asks for, by what stands behind it
abbrev pub debug_in : List Row → Wanted
debug_in rows =
    debug_wanted (first_of (codes "CONFIG") rows) (first_of (codes "SCRIPT") rows) (first_of (codes "FILE") rows)

-- what `live` asks for, by what stands behind it
abbrev pub live_in : List Row → Wanted
live_in rows =
    live_wanted (first_of (codes "CONFIG") rows) (first_of (codes "HOST") rows) (first_of (codes "SECONDS") rows)
    (first_of (codes "DIR") rows) (is_given (first_of (codes "stats") rows))

abbrev pub all_in : List Row → Wanted
all_in rows =
    nodes_wanted (is_given (first_of (codes "sample") rows)) (is_given (first_of (codes "quiet") rows))
    (is_given (first_of (codes "sent") rows))
    (is_given (first_of (codes "totals") rows))
    (cut_of (first_of (codes "N") rows))
    (first_of (codes "CONFIG") rows)
    (first_of (codes "SCRIPT") rows)

abbrev pub runs_in : List Row → Wanted
runs_in rows =
    if is_given (first_of (codes "nodes") rows) then all_in rows else uncut (first_of (codes "N") rows) (one_in rows)

abbrev pub run_in : List Row → Wanted
run_in rows = logged (first_of (codes "DIR") rows) (runs_in rows)

-- what a command asks for, by its name and what stands behind it
abbrev pub wanted_of : Option (Text × List Row) → Wanted
wanted_of None = Read Plain false None None
wanted_of (Some used) =
    if bytes_eq used.0 (codes "draw") then Draw (first_of (codes "TABLE") used.1)
    else if bytes_eq used.0 (codes "asm") then Assemble (first_of (codes "TABLE") used.1)
    else if bytes_eq used.0 (codes "list") then ListImage (first_of (codes "FILE") used.1)
    else if bytes_eq used.0 (codes "run") then run_in used.1
    else if bytes_eq used.0 (codes "debug") then debug_in used.1
    else if bytes_eq used.0 (codes "live") then live_in used.1
    else if bytes_eq used.0 (codes "walk")
    then walk_wanted (is_given (first_of (codes "names") used.1)) (is_given (first_of (codes "why") used.1))
    (first_of (codes "NAME") used.1) (first_of (codes "FROM") used.1) (first_of (codes "TABLE") used.1)
    (first_of (codes "EVENTS") used.1)
    else read_wanted (is_given (first_of (codes "explain") used.1)) (is_given (first_of (codes "json") used.1))
    (is_given (first_of (codes "lines") used.1)) (first_of (codes "DICT") used.1) (first_of (codes "FILE") used.1)

-- what the words ask for, where they are a command
unfoldable pub wanted : List Text → Wanted
wanted words = wanted_of (subcommand_of dbench_app words)

-- the words ask for help or for the version
abbrev pub AskForText : List Text → Type 0
AskForText words = IsAmong DisplayHelp (word_faults words) ⊎ IsAmong DisplayVersion (word_faults words)

-- something is wrong with the words
pub record AreRefused (words : List Text) : Type 0 where
  pub kind : ErrorKind
  pub among : IsAmong kind (word_faults words)
  pub no_help : kind ≢ DisplayHelp
  pub no_version : kind ≢ DisplayVersion
