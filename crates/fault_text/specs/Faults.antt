-- What is told of a table, or of lines of events, that is refused.
use Rattle.std.specs.Prelude.{ℕ, Bool, List, [], ◌++◌, Option, Some, None, codes, decimal, if◌then◌else◌}
use Rattle.std.specs.Option.{option_map_or}
use Rattle.tab_law.specs.Books.{Laws}
use Rattle.text_parts.specs.Lines.{Line, lines}
use Rattle.event_text.specs.Wrong.{wrong_of}
use Rattle.fault_text.specs.Nearest.{nearest_line}
use Rattle.fault_text.specs.Spots.{from_line, odd_at, place_line, wrong_line}
use Rattle.fault_text.specs.Words.{shown}
use Rattle.fault_text.specs.declared.spots.RowPlace.{RowPlace}
use Rattle.tab_text.specs.Codes.{number_of}
use Rattle.tab_text.specs.declared.fault.TextCode.{TextCode}
use Rattle.tab_text.specs.declared.fault.TextCode.TheVariants.{NoHeader, BadByte, EmptyCell, NoRowToContinue, BadName}
use Rattle.tab_text.specs.declared.fault.TextCode.TheVariants.{TooManyRows, TooManyNames, TooManyInRow, TooLong}
use Rattle.tab_text.specs.declared.fault.TextFault.{TextFault}

-- what was wanted where a table's text has a fault
unfoldable pub wanted_of : TextCode → List ℕ
wanted_of NoHeader = codes "a header: two blanks, then the words State, Event, Action and Next"
wanted_of BadByte = codes "printable ASCII, and in a row's line a blank or + in byte 0 and a blank in byte 1"
wanted_of EmptyCell = codes "a row with an Event, an Action (- for none) and a Next, the first one with a State too"
wanted_of NoRowToContinue = codes "a row before a line that continues one"
wanted_of BadName = codes "names (a letter, then letters, digits, -, / and _, at most 40 bytes); an Event as `Kind` or `Kind when guard and guard`; commas between actions"
wanted_of TooManyRows = codes "at most 4096 rows"
wanted_of TooManyNames = codes "at most 64 states, 128 kinds, 64 guards and 64 actions"
wanted_of TooManyInRow = codes "at most 4 guards and 8 actions in a row"
wanted_of TooLong = codes "at most 1048576 bytes"

-- what was wanted, on a line of its own
abbrev pub wanted_line : List ℕ → List ℕ
wanted_line what = codes "  wanted: " ++ what ++ codes "\n"

-- the kind, the guard and the action that are near a name, where they are
abbrev pub near_names : Laws → List ℕ → List ℕ
near_names laws name = nearest_line name laws.kinds ++ nearest_line name laws.guards ++ nearest_line name laws.acts

-- `line 1 fault 1`: the first fault of a table's text, and what stands there
abbrev pub table_fault : (text : List ℕ) → TextFault → List ℕ
table_fault text fault =
    codes "line " ++ decimal fault.line ++ codes " fault " ++ decimal (number_of fault.code) ++ codes "\n"
    ++ wanted_line (wanted_of fault.code)
    ++ wrong_line fault.code (from_line fault.line (lines text))

-- what is near the first word of a row that is no name, where the row isn't made of names
abbrev pub near_odd : Laws → TextCode → List Line → List ℕ
near_odd laws code from = option_map_or (near_names laws) (odd_at code from) []

-- the same, and what is near the word that is wrong
abbrev pub known_fault : Laws → (text : List ℕ) → TextFault → List ℕ
known_fault laws text fault =
    table_fault text fault ++ near_odd laws fault.code (from_line fault.line (lines text))

-- `unbound Strat`: the first name of a table that isn't registered, the row where it stands, and what is near it
abbrev pub unbound_text : Laws → Option RowPlace → List ℕ → List ℕ
unbound_text laws place name =
    codes "unbound " ++ name ++ codes "\n" ++ place_line place
    ++ wanted_line (codes "a kind, a guard or an action that is registered")
    ++ near_names laws name

-- what a line of events is
unfoldable pub event_form : List ℕ
event_form = codes "KIND N=V ..: a kind that is registered, then facts, each once, N at most 63 and V below 2^64"

-- the kind that is near a word, where one is
abbrev pub near_kind : Laws → (Bool × List ℕ) → List ℕ
near_kind laws wrong = if wrong.0 then nearest_line wrong.1 laws.kinds else []

-- which word of a line is wrong, and the kind that is near it
abbrev pub wrong_text : Laws → Option (Bool × List ℕ) → List ℕ
wrong_text laws None = codes "  wrong: a fact stands twice\n"
wrong_text laws (Some wrong) = codes "  wrong: " ++ shown wrong.1 ++ codes "\n" ++ near_kind laws wrong

-- `bad line 2`: the first line that is no event, with the word of it that is wrong
abbrev pub bad_text : Laws → Line → List ℕ
bad_text laws line =
    codes "bad line " ++ decimal line.number ++ codes "\n" ++ wanted_line event_form
    ++ wrong_text laws (wrong_of laws line.octets)
