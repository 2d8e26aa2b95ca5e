-- Breakpoints, read.
use Rattle.std.specs.Prelude.{ℕ, List, [], ◌∷◌, Option, Some, None, Result, Ok, Err, codes, position, if◌then◌else◌}
use Rattle.std.specs.Str.{bytes_eq}
use Rattle.base_list.specs.Named.{place_of}
use Rattle.bench_item.specs.declared.key.Key.{Key}
use Rattle.script_text.specs.Keys.{key_of}
use Rattle.tab_law.specs.Books.{Laws}
use Rattle.text_parts.specs.Words.{Word}
use Rattle.debug_text.specs.Tables.{Tables, table_of}
use Rattle.debug_text.specs.Words.{one_key, register_of, row_of}
use Rattle.debug_text.specs.declared.command.Breakpoint.{Breakpoint}
use Rattle.debug_text.specs.declared.command.Breakpoint.TheVariants.{Row, State, Kind, Machine, Value}
use Rattle.debug_text.specs.declared.command.CommandFault.{CommandFault}
use Rattle.debug_text.specs.declared.command.CommandFault.TheVariants.{UnknownCommand}

-- an answer made of another's, or its fault
abbrev pub read_as : {A B : Type 0} → (A → B) → Result A CommandFault → Result B CommandFault
read_as f (Ok answer) = Ok (f answer)
read_as f (Err fault) = Err fault

-- `row ROLE R`
abbrev pub row_break : List Word → Result Breakpoint CommandFault
row_break words = read_as (λ at. Row at.0 at.1) (row_of words)

-- `state KEY STATE`: the table of the key's role has a state of that name
abbrev pub state_at : Key → Option ℕ → Result Breakpoint CommandFault
state_at key None = Err UnknownCommand
state_at key (Some state) = Ok (State key state)

abbrev pub state_with : Tables → Option Key → List ℕ → Result Breakpoint CommandFault
state_with tables None word = Err UnknownCommand
state_with tables (Some key) word =
    state_at key (position (λ name. bytes_eq name word) (table_of tables key.role).states)

abbrev pub state_break : Tables → List Word → Result Breakpoint CommandFault
state_break tables [] = Err UnknownCommand
state_break tables (key ∷ []) = Err UnknownCommand
state_break tables (key ∷ state ∷ []) = state_with tables (key_of key.octets) state.octets
state_break tables (key ∷ state ∷ other ∷ others) = Err UnknownCommand

-- `kind KIND`: the book of laws has it
abbrev pub kind_at : Option ℕ → Result Breakpoint CommandFault
kind_at None = Err UnknownCommand
kind_at (Some kind) = Ok (Kind kind)

abbrev pub kind_break : Laws → List Word → Result Breakpoint CommandFault
kind_break laws [] = Err UnknownCommand
kind_break laws (kind ∷ []) = kind_at (place_of kind.octets laws.kinds)
kind_break laws (kind ∷ other ∷ others) = Err UnknownCommand

-- `machine KEY`
abbrev pub machine_break : List Word → Result Breakpoint CommandFault
machine_break words = read_as (λ key. Machine key) (one_key UnknownCommand words)

-- `value KEY rR=V`: a word that is no key is told before a bad number
abbrev pub value_with : Option Key → Result (ℕ × ℕ) CommandFault → Result Breakpoint CommandFault
value_with None at = Err UnknownCommand
value_with (Some key) at = read_as (λ a. Value key a.0 a.1) at

abbrev pub value_break : List Word → Result Breakpoint CommandFault
value_break [] = Err UnknownCommand
value_break (key ∷ []) = Err UnknownCommand
value_break (key ∷ value ∷ []) = value_with (key_of key.octets) (register_of value.octets)
value_break (key ∷ value ∷ other ∷ others) = Err UnknownCommand

-- what stands behind `break`
abbrev pub break_by : Tables → List ℕ → List Word → Result Breakpoint CommandFault
break_by tables what words =
    if bytes_eq what (codes "row") then row_break words
    else (if bytes_eq what (codes "state") then state_break tables words
    else (if bytes_eq what (codes "kind") then kind_break tables.laws words
    else (if bytes_eq what (codes "machine") then machine_break words
    else (if bytes_eq what (codes "value") then value_break words else Err UnknownCommand))))

abbrev pub break_from : Tables → List Word → Result Breakpoint CommandFault
break_from tables [] = Err UnknownCommand
break_from tables (what ∷ words) = break_by tables what.octets words
