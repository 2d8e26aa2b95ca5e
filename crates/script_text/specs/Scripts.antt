-- What the lines of a script ask for.
use Rattle.std.specs.Prelude.{ℕ, ◌^◌, ◌&&◌, not, nat_lt, Bool, true, false, List, [], ◌∷◌, filter, Option, Some, None}
use Rattle.std.specs.Prelude.{Result, Ok, Err, is_none, is_some, option_map, unwrap_or, codes, if◌then◌else◌}
use Rattle.std.specs.List.{filter_map, find}
use Rattle.std.specs.Str.{bytes_eq}
use Rattle.hex.specs.Hex.{decode_of}
use Rattle.hex.specs.declared.error.FromHexError.{FromHexError}
use Rattle.base_list.specs.Named.{place_of}
use Rattle.base_text.specs.Numbers.{number_of}
use Rattle.event_text.specs.Events.{facts_of, is_skipped}
use Rattle.tab_law.specs.Books.{Laws}
use Rattle.text_parts.specs.Lines.{Line, lines}
use Rattle.text_parts.specs.Words.{Word, words}
use Rattle.bench_item.specs.declared.key.Key.{Key}
use Rattle.bench_item.specs.declared.source.Source.{Source}
use Rattle.bench_item.specs.declared.source.Source.TheVariants as sources
use Rattle.bench_item.specs.declared.step.Step.{Step}
use Rattle.bench_item.specs.declared.step.Step.TheVariants.{Joined, Dialled, Came, Lost, Told, Lift, Drop, Work}
use Rattle.script_text.specs.Keys.{key_of, octet_of}
use Rattle.script_text.specs.declared.asked.ScriptStep.{ScriptStep}
use Rattle.script_text.specs.declared.asked.ScriptStep.TheVariants as asked
use Rattle.script_text.specs.declared.asked.TheConstants.{NO_KIND}

-- a number below 2^32
abbrev pub if_short : Option ℕ → Option ℕ
if_short None = None
if_short (Some number) = if nat_lt number (2 ^ 32) then Some number else None

unfoldable pub short_of : List ℕ → Option ℕ
short_of word = if_short (number_of word)

-- words that are one such number
abbrev pub only_short : List Word → Option ℕ
only_short [] = None
only_short (word ∷ []) = short_of word.octets
only_short (word ∷ other ∷ others) = None

-- the octets of hexadecimal digits
abbrev pub decoded : Result (List ℕ) FromHexError → Option (List ℕ)
decoded (Ok octets) = Some octets
decoded (Err fault) = None

-- whether a word is pairs of such digits
abbrev pub is_pairs : List ℕ → Bool
is_pairs [] = true
is_pairs (digit ∷ []) = false
is_pairs (high ∷ low ∷ others) = is_some (octet_of high low) && is_pairs others

unfoldable pub piece_of : List ℕ → Option (List ℕ)
piece_of word = decoded (decode_of word)

-- octets that come on a line; without a second word none
abbrev pub came_with : Option ℕ → Option (List ℕ) → Option Step
came_with (Some line) (Some piece) = Some (Came line piece)
came_with (Some line) None = None
came_with None piece = None

abbrev pub came_from : List Word → Option Step
came_from [] = None
came_from (line ∷ []) = came_with (short_of line.octets) (Some [])
came_from (line ∷ piece ∷ []) = came_with (short_of line.octets) (piece_of piece.octets)
came_from (line ∷ piece ∷ other ∷ others) = None

-- a source by its word and its number
abbrev pub source_with : List ℕ → Option ℕ → Option Source
source_with word None = None
source_with word (Some number) =
    if bytes_eq word (codes "line") then Some (sources.Line number)
    else (if bytes_eq word (codes "shard") then Some (sources.Shard number)
    else (if bytes_eq word (codes "desk") then Some (sources.Desk number) else None))

abbrev pub source_from : List Word → Option Source
source_from [] = None
source_from (word ∷ []) = if bytes_eq word.octets (codes "clock") then Some sources.Clock else None
source_from (word ∷ number ∷ []) = source_with word.octets (short_of number.octets)
source_from (word ∷ number ∷ other ∷ others) = None

-- the place of a kind's name in the book of laws; a name that isn't there has one that no kind has
abbrev pub kind_of : Laws → List ℕ → ℕ
kind_of laws name = unwrap_or (place_of name laws.kinds) NO_KIND

-- what a desk tells: its number, a key, a kind, and facts
abbrev pub told_with : Option ℕ → Option Key → ℕ → Option (List ℕ) → Option Step
told_with (Some desk) (Some key) kind (Some facts) = Some (Told desk key (record { kind = kind; facts = facts }))
told_with (Some desk) (Some key) kind None = None
told_with (Some desk) None kind facts = None
told_with None key kind facts = None

abbrev pub told_from : Laws → List Word → Option Step
told_from laws [] = None
told_from laws (desk ∷ []) = None
told_from laws (desk ∷ key ∷ []) = None
told_from laws (desk ∷ key ∷ kind ∷ facts) =
    told_with (short_of desk.octets) (key_of key.octets) (kind_of laws kind.octets) (facts_of facts)

-- a timer that fires: the key of its machine, and the generation
abbrev pub fired_with : Option Key → Option ℕ → Option ScriptStep
fired_with (Some key) (Some generation) = Some (asked.Fired key generation)
fired_with (Some key) None = None
fired_with None generation = None

abbrev pub fired_from : List Word → Option ScriptStep
fired_from [] = None
fired_from (key ∷ []) = None
fired_from (key ∷ generation ∷ []) = fired_with (key_of key.octets) (number_of generation.octets)
fired_from (key ∷ generation ∷ other ∷ others) = None

-- a step without words behind it
abbrev pub joined_from : List Word → Option Step
joined_from [] = Some Joined
joined_from (word ∷ others) = None

-- the step that a verb and the words behind it are, but for one that needs the number of a machine
unfoldable pub step_from : Laws → List ℕ → List Word → Option Step
step_from laws verb others =
    if bytes_eq verb (codes "join") then joined_from others
    else (if bytes_eq verb (codes "dialled") then option_map (λ line. Dialled line) (only_short others)
    else (if bytes_eq verb (codes "came") then came_from others
    else (if bytes_eq verb (codes "lost") then option_map (λ line. Lost line) (only_short others)
    else (if bytes_eq verb (codes "told") then told_from laws others
    else (if bytes_eq verb (codes "lift") then option_map (λ source. Lift source) (source_from others)
    else (if bytes_eq verb (codes "drop") then option_map (λ source. Drop source) (source_from others)
    else (if bytes_eq verb (codes "work") then option_map (λ shard. Work shard) (only_short others) else None)))))))

-- what words ask for
abbrev pub asked_from : Laws → List Word → Option ScriptStep
asked_from laws [] = None
asked_from laws (verb ∷ others) =
    if bytes_eq verb.octets (codes "fired") then fired_from others
    else option_map (λ step. asked.Step step) (step_from laws verb.octets others)

-- what a line asks for
unfoldable pub asked_of : Laws → List ℕ → Option ScriptStep
asked_of laws line = asked_from laws (words line)

-- the lines that aren't skipped: those that are empty or begin with a blank are
abbrev pub asking : List Line → List Line
asking all = filter (λ line. not (is_skipped line.octets)) all

abbrev pub asked_in : Laws → List Line → List ScriptStep
asked_in laws all = filter_map (λ line. asked_of laws line.octets) (asking all)

abbrev pub bad_in : Laws → List Line → Option ℕ
bad_in laws all = option_map (λ line. line.number) (find (λ line. is_none (asked_of laws line.octets)) (asking all))

-- what a script asks for, in order
abbrev pub script_of : Laws → List ℕ → List ScriptStep
script_of laws text = asked_in laws (lines text)

-- the first line of a script that has another form
abbrev pub first_bad : Laws → List ℕ → Option ℕ
first_bad laws text = bad_in laws (lines text)
