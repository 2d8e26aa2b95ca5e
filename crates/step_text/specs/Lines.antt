-- A step as a line of a script.
use Rattle.std.specs.Prelude.{ℕ, ◌+◌, ◌==◌, List, [], ◌∷◌, ◌++◌, codes, decimal, if◌then◌else◌}
use Rattle.std.specs.List.{flat_map}
use Rattle.hex.specs.Hex.{encode_lower}
use Rattle.bench_item.specs.declared.step.Step.{Step}
use Rattle.bench_item.specs.declared.step.Step.TheVariants.{Joined, Dialled, Came, Lost, Told, Fired, Lift, Drop, Work}
use Rattle.bench_item.specs.declared.source.Source.{Source}
use Rattle.bench_item.specs.declared.source.Source.TheVariants.{Line, Shard, Desk, Clock}
use Rattle.step_text.specs.Commands.{name_of, which}
use Rattle.step_text.specs.Names.{Names, key_name, kind_word, machine_word, shown}

-- a fact that isn't 0: `N=V`
abbrev pub fact_word : ℕ → ℕ → List ℕ
fact_word number value = decimal number ++ codes "=" ++ decimal value

-- the facts that aren't 0, the first of them with that number
abbrev pub fact_words : ℕ → List ℕ → List (List ℕ)
fact_words number [] = []
fact_words number (value ∷ values) =
    if value == 0 then fact_words (number + 1) values else fact_word number value ∷ fact_words (number + 1) values

-- octets in hexadecimal, no word where there are none
abbrev pub piece_words : List ℕ → List (List ℕ)
piece_words [] = []
piece_words (octet ∷ octets) = encode_lower (octet ∷ octets) ∷ []

-- who puts items out
abbrev pub source_words : Source → List (List ℕ)
source_words (Line line) = codes "line" ∷ decimal line ∷ []
source_words (Shard shard) = codes "shard" ∷ decimal shard ∷ []
source_words (Desk desk) = codes "desk" ∷ decimal desk ∷ []
source_words Clock = codes "clock" ∷ []

-- the words of a step's line behind its command
abbrev pub others_of : Names → Step → List (List ℕ)
others_of names Joined = []
others_of names (Dialled line) = decimal line ∷ []
others_of names (Came line piece) = decimal line ∷ piece_words piece
others_of names (Lost line) = decimal line ∷ []
others_of names (Told desk key event) =
    decimal desk ∷ shown (key_name key) ∷ kind_word names event.kind ∷ fact_words 0 event.facts
others_of names (Fired machine generation) = machine_word names machine ∷ decimal generation ∷ []
others_of names (Lift source) = source_words source
others_of names (Drop source) = source_words source
others_of names (Work shard) = decimal shard ∷ []

-- words, each behind a blank
abbrev pub behind : List (List ℕ) → List ℕ
behind words = flat_map (λ word. codes " " ++ word) words

-- the line of a step
abbrev pub line_of : Names → Step → List ℕ
line_of names step = name_of (which step) ++ behind (others_of names step)
