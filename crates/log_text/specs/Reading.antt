-- Which log a text is, or its first bad line.
use Rattle.std.specs.Prelude.{◌≡◌, ◌<◌, ℕ, ◌+◌, List, [], ◌∷◌, ◌++◌, length, slice_index_or, take}
use Rattle.std.specs.List.{flat_map}
use Rattle.std.specs.Io.BufRead.{strip_last}
use Rattle.text_parts.specs.Pieces.{pieces_in}
use Rattle.event_text.specs.declared.events.LinesError.{LinesError}
use Rattle.event_text.specs.declared.events.LinesError.TheVariants.{NoMemory, BadLine}
use Rattle.bench_item.specs.declared.entry.Entry.{Entry}
use Rattle.log_text.specs.Books.{Named}
use Rattle.log_text.specs.EntryLines.{log_lines}
use Rattle.log_text.specs.ItemLines.{AreWords}
use Rattle.log_text.specs.Following.{MayFollow, ended}

-- without the newline at the end
abbrev pub front_of : List ℕ → List ℕ
front_of text = strip_last 10 text

-- with a newline at the end of the last line, where a text has lines
abbrev pub whole : List ℕ → List ℕ
whole [] = []
whole (c ∷ cs) = ended (front_of (c ∷ cs))

-- the lines of a text
abbrev pub lines_in : List ℕ → List (List ℕ)
lines_in [] = []
lines_in (c ∷ cs) = pieces_in 10 (front_of (c ∷ cs))

-- a line may follow the log that those before it tell
pub record Follows (names : Named) (before : List (List ℕ)) (line : List ℕ) : Type 0 where
  pub log : List Entry
  pub front : log_lines names log ≡ flat_map ended before
  pub may : MayFollow names log line

-- each line may follow those before it
abbrev pub AreGood : Named → List (List ℕ) → Type 0
AreGood names lines =
    (place : ℕ) → place < length lines → Follows names (take place lines) (slice_index_or lines place [])

-- The first bad line. The lines before it are a log's text, and behind that it can't stand.
pub record IsFirstBad (names : Named) (text : List ℕ) (number : ℕ) : Type 0 where
  pub before : List (List ℕ)
  pub line : List ℕ
  pub behind : List (List ℕ)
  pub cut : lines_in text ≡ before ++ line ∷ behind
  pub counted : number ≡ length before + 1
  pub good : AreGood names before
  pub log : List Entry
  pub front : log_lines names log ≡ flat_map ended before
  pub bad : AreWords names → MayFollow names log line → ⊥

-- no line is bad, and memory was refused; or the first bad line
abbrev pub IsFaultOf : Named → List ℕ → LinesError → Type 0
IsFaultOf names text NoMemory = AreGood names (lines_in text)
IsFaultOf names text (BadLine number) = IsFirstBad names text number
