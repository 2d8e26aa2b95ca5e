-- Which steps have lines, and what is read of a line.
use Rattle.std.specs.Prelude.{◌≡◌, ◌<◌, ℕ, ◌^◌, List, [], ◌∷◌, length, All, Option, None, IsSomeAnd, slice_get}
use Rattle.std.specs.Prelude.{find, ◌==◌, option_and_then}
use Rattle.hex.specs.Hex.{IsBytes}
use Rattle.tab_law.specs.declared.limits.TheConstants.{PLACES}
use Rattle.tab_step.specs.declared.machine.Event.{Event}
use Rattle.text_parts.specs.Pieces.{pieces_in}
use Rattle.bench_item.specs.declared.key.Key.{Key}
use Rattle.bench_item.specs.declared.source.Source.{Source}
use Rattle.bench_item.specs.declared.source.Source.TheVariants.{Line, Shard, Desk, Clock}
use Rattle.bench_item.specs.declared.step.Step.{Step}
use Rattle.bench_item.specs.declared.step.Step.TheVariants.{Joined, Dialled, Came, Lost, Told, Fired, Lift, Drop, Work}
use Rattle.step_text.specs.Commands.{command_of}
use Rattle.step_text.specs.Guess.{guess_of}
use Rattle.step_text.specs.Names.{Names}

-- what can be told: the numbers fit their types, names are octets, and there is such a kind
pub record IsTold (names : Names) (desk : ℕ) (key : Key) (event : Event) : Type 0 where
  pub desk_fits : desk < 2 ^ 32
  pub name : IsBytes key.name
  pub kind : IsSomeAnd (slice_get names.kinds event.kind) (λ entry. IsBytes entry.name)
  pub places : length event.facts ≡ PLACES
  pub values : All (λ value. value < 2 ^ 64) event.facts

-- a timer that can fire: there is such a machine
pub record IsFired (names : Names) (machine generation : ℕ) : Type 0 where
  pub known : IsSomeAnd (find (λ entry. entry.value == machine) names.machines) (λ entry. IsBytes entry.name)
  pub generation_fits : generation < 2 ^ 64

abbrev pub IsSource : Source → Type 0
IsSource (Line line) = line < 2 ^ 32
IsSource (Shard shard) = shard < 2 ^ 32
IsSource (Desk desk) = desk < 2 ^ 32
IsSource Clock = Unit

-- a step as there may be one: its numbers fit their types, its octets are octets, and what it names is there
abbrev pub IsStep : Names → Step → Type 0
IsStep names Joined = Unit
IsStep names (Dialled line) = line < 2 ^ 32
IsStep names (Came line piece) = (line < 2 ^ 32) × IsBytes piece
IsStep names (Lost line) = line < 2 ^ 32
IsStep names (Told desk key event) = IsTold names desk key event
IsStep names (Fired machine generation) = IsFired names machine generation
IsStep names (Lift source) = IsSource source
IsStep names (Drop source) = IsSource source
IsStep names (Work shard) = shard < 2 ^ 32

-- the step that these words can be
abbrev pub guess_words : Names → List (List ℕ) → Option Step
guess_words names [] = None
guess_words names (word ∷ words) = option_and_then (λ command. guess_of names command words) (command_of word)

-- the step that a line can be
abbrev pub guess_line : Names → List ℕ → Option Step
guess_line names line = guess_words names (pieces_in 32 line)
