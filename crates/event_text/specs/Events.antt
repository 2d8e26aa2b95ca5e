-- Which events a text lists: a line each, `KIND N=V ..`, a kind by its name and then facts by number.
use Rattle.std.specs.Prelude.{◌≡◌, ℕ, ◌==◌, ◌&&◌, not, nat_lt, Bool, true, List, [], ◌∷◌, filter, map, Option, Some}
use Rattle.std.specs.Prelude.{None, is_none, is_some, option_map, unwrap_or, if◌then◌else◌}
use Rattle.std.specs.List.{filter_map, find, list_all, list_any, range_with_len, slice_split}
use Rattle.base_text.specs.Numbers.{number_of}
use Rattle.tab_law.specs.Books.{Laws}
use Rattle.base_list.specs.Named.{place_of}
use Rattle.tab_law.specs.declared.limits.TheConstants.{PLACES}
use Rattle.tab_step.specs.declared.machine.Event.{Event}
use Rattle.text_parts.specs.Lines.{Line, lines}
use Rattle.text_parts.specs.Words.{Word, words}
use Rattle.event_text.specs.declared.events.LinesError.{LinesError}
use Rattle.event_text.specs.declared.events.LinesError.TheVariants.{NoMemory, BadLine}

-- a number below PLACES and a value
abbrev pub fact_with : Option ℕ → Option ℕ → Option (ℕ × ℕ)
fact_with (Some number) (Some value) = if nat_lt number PLACES then Some (number, value) else None
fact_with (Some number) None = None
fact_with None value = None

-- a fact from the two parts of `N=V`
abbrev pub fact_between : List (List ℕ) → Option (ℕ × ℕ)
fact_between [] = None
fact_between (number ∷ []) = None
fact_between (number ∷ value ∷ []) = fact_with (number_of number) (number_of value)
fact_between (number ∷ value ∷ other ∷ others) = None

-- the fact of a word `N=V`
unfoldable pub fact_of : List ℕ → Option (ℕ × ℕ)
fact_of word = fact_between (slice_split (λ c. c == 61) word)

-- the same of a word with a letter in front, where one is wanted: `rN=V`
abbrev pub labelled : Option ℕ → List ℕ → Option (ℕ × ℕ)
labelled None word = fact_of word
labelled (Some letter) [] = None
labelled (Some letter) (c ∷ word) = if c == letter then fact_of word else None

-- the facts that words are
abbrev pub facts_in : Option ℕ → List Word → List (ℕ × ℕ)
facts_in letter all = filter_map (λ word. labelled letter word.octets) all

-- no number stands twice
abbrev pub are_different : List ℕ → Bool
are_different [] = true
are_different (number ∷ others) = not (list_any (λ other. other == number) others) && are_different others

-- each word is a fact, and no two have one number
abbrev pub are_facts : Option ℕ → List Word → Bool
are_facts letter all =
    list_all (λ word. is_some (labelled letter word.octets)) all
    && are_different (map (λ fact. fact.0) (facts_in letter all))

-- the value that is written for a number, or 0
abbrev pub value_of : List (ℕ × ℕ) → ℕ → ℕ
value_of facts number = unwrap_or (option_map (λ fact. fact.1) (find (λ fact. fact.0 == number) facts)) 0

-- the values of the numbers below PLACES, where the words are facts
unfoldable pub facts_by : Option ℕ → List Word → Option (List ℕ)
facts_by letter all =
    if are_facts letter all then Some (map (value_of (facts_in letter all)) (range_with_len 0 PLACES)) else None

-- of words `N=V`
unfoldable pub facts_of : List Word → Option (List ℕ)
facts_of all = facts_by None all

-- of words `rN=V`: registers
unfoldable pub registers_of : List Word → Option (List ℕ)
registers_of all = facts_by (Some 114) all

-- an event of that kind, if these are facts
abbrev pub event_with : Option ℕ → Option (List ℕ) → Option Event
event_with (Some kind) (Some facts) = Some (record { kind = kind; facts = facts })
event_with (Some kind) None = None
event_with None facts = None

-- the event of a line's words: a kind of the book, and facts
abbrev pub event_from : Laws → List Word → Option Event
event_from laws [] = None
event_from laws (name ∷ others) = event_with (place_of name.octets laws.kinds) (facts_of others)

-- the event of a line
unfoldable pub event_of : Laws → List ℕ → Option Event
event_of laws line = event_from laws (words line)

-- empty lines, and lines that begin with a blank, are skipped
abbrev pub is_skipped : List ℕ → Bool
is_skipped [] = true
is_skipped (c ∷ cs) = c == 32

-- the other lines
abbrev pub event_lines : List Line → List Line
event_lines all = filter (λ line. not (is_skipped line.octets)) all

-- the events of lines
abbrev pub events_in : Laws → List Line → List Event
events_in laws all = filter_map (λ line. event_of laws line.octets) (event_lines all)

-- the first of lines that is no event
abbrev pub bad_line_in : Laws → List Line → Option Line
bad_line_in laws all = find (λ line. is_none (event_of laws line.octets)) (event_lines all)

-- the events of a text
abbrev pub events_of : Laws → List ℕ → List Event
events_of laws text = events_in laws (lines text)

-- the first line of a text that is no event
abbrev pub bad_line : Laws → List ℕ → Option Line
bad_line laws text = bad_line_in laws (lines text)

-- the refusal names the first such line, or memory was refused
abbrev pub IsBadText : Option ℕ → LinesError → Type 0
IsBadText first NoMemory = Unit {0}
IsBadText first (BadLine line) = first ≡ Some line
