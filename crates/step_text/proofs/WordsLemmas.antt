-- The words of a step have no blanks.
use Rattle.std.proofs.Common.{◌≡◌, ◌<◌, ◌≤◌, ℕ, ◌+◌, ◌^◌, ◌==◌, true, false, cond, List, [], ◌∷◌, ◌++◌, length, refl, Option, Some, None, suc, arith}
use Rattle.std.specs.Prelude.{not, All, IsSomeAnd, codes, decimal, find, slice_get}
use Rattle.std.specs.Option.{option_map_or}
use Rattle.std.proofs.lemmas.List.Folds.{list_all-append}
use Rattle.hex.specs.Hex.{IsBytes}
use Rattle.base_list.specs.declared.named.Named.{Named}
use Rattle.tab_law.specs.declared.limits.TheConstants.{PLACES}
use Rattle.bench_item.specs.declared.source.Source.{Source}
use Rattle.bench_item.specs.declared.source.Source.TheVariants.{Line, Shard, Desk, Clock}
use Rattle.bench_item.specs.declared.step.Step.{Step}
use Rattle.bench_item.specs.declared.step.Step.TheVariants as step
use Rattle.step_text.specs.declared.command.Command.{Command}
use Rattle.step_text.specs.declared.command.Command.TheVariants.{Join, Dialled, Came, Lost, Told, Fired, Lift, Drop, Work}
use Rattle.step_text.specs.Commands.{command_of, name_of}
use Rattle.step_text.specs.Lines.{fact_word, fact_words, others_of, piece_words, source_words}
use Rattle.step_text.specs.Names.{Names, key_name, shown}
use Rattle.step_text.specs.Steps.{IsSource, IsStep}
use Rattle.step_text.proofs.DecimalLemmas.{decimal-without}
use Rattle.step_text.proofs.ShownLemmas.{key_name-bytes}
use Rattle.step_text.proofs.SolidLemmas.{are_solid, encode_lower-solid, is_solid, shown-solid}

number_solid : (n : ℕ) → n < 2 ^ 64 → is_solid (decimal n) ≡ true
number_solid n fits = decimal-without 32 n refl fits

fact_word-solid : (number value : ℕ) → number < 2 ^ 64 → value < 2 ^ 64 → is_solid (fact_word number value) ≡ true
fact_word-solid number value within fits =
    rw (
      list_all-append (λ c. not (c == 32)) (decimal number ++ codes "=") (decimal value),
      list_all-append (λ c. not (c == 32)) (decimal number) (codes "="),
      number_solid number within,
      number_solid value fits,
    ) refl

fact_words-solid : (number : ℕ) (values : List ℕ) → number + length values ≤ PLACES → All (λ value. value < 2 ^ 64) values → are_solid (fact_words number values) ≡ true
fact_words-solid number [] room fits = refl
fact_words-solid number (value ∷ values) room fits =
    let rest = fact_words-solid (number + 1) values (omega arith) (λ k d within. fits (suc k) d (omega arith)) in
    let here = fact_word-solid number value (omega arith) (fits 0 0 (omega arith)) in
    elim (value == 0) as (λ b. are_solid (cond b (fact_words (number + 1) values) (fact_word number value ∷ fact_words (number + 1) values)) ≡ true) [
      | true ↦ rest
      | false ↦ rw (here, rest) refl
    ]

piece_words-solid : (piece : List ℕ) → IsBytes piece → are_solid (piece_words piece) ≡ true
piece_words-solid [] bytes = refl
piece_words-solid (c ∷ piece) bytes = rw (encode_lower-solid (c ∷ piece) bytes) refl

-- the word of what stands in a list
entry_solid : {T : Type 0} (entry : Option (Named T)) → IsSomeAnd entry (λ entry. IsBytes entry.name) → is_solid (option_map_or (λ entry. shown entry.name) entry (codes "-")) ≡ true
entry_solid (Some entry) bytes = shown-solid entry.name bytes
entry_solid None bytes = absurd bytes

source_solid : (source : Source) → IsSource source → are_solid (source_words source) ≡ true
source_solid (Line line) fits = rw (number_solid line (omega arith)) refl
source_solid (Shard shard) fits = rw (number_solid shard (omega arith)) refl
source_solid (Desk desk) fits = rw (number_solid desk (omega arith)) refl
source_solid Clock fits = refl

pub others-solid : (names : Names) (step : Step) → IsStep names step → are_solid (others_of names step) ≡ true
others-solid names step.Joined is = refl
others-solid names (step.Dialled line) is = rw (number_solid line (omega arith)) refl
others-solid names (step.Came line piece) is = rw (number_solid line (omega arith), piece_words-solid piece is.1) refl
others-solid names (step.Lost line) is = rw (number_solid line (omega arith)) refl
others-solid names (step.Told desk key event) is =
    let desk_fits : desk < 2 ^ 64 = omega arith in
    rw (
      number_solid desk desk_fits,
      shown-solid (key_name key) (key_name-bytes key is.name),
      entry_solid (slice_get names.kinds event.kind) is.kind,
      fact_words-solid 0 event.facts (omega (arith, is.places)) is.values,
    ) refl
others-solid names (step.Fired machine generation) is =
    rw (entry_solid (find (λ entry. entry.value == machine) names.machines) is.known, number_solid generation is.generation_fits) refl
others-solid names (step.Lift source) is = source_solid source is
others-solid names (step.Drop source) is = source_solid source is
others-solid names (step.Work shard) is = rw (number_solid shard (omega arith)) refl

pub name-solid : (command : Command) → is_solid (name_of command) ≡ true
name-solid Join = refl
name-solid Dialled = refl
name-solid Came = refl
name-solid Lost = refl
name-solid Told = refl
name-solid Fired = refl
name-solid Lift = refl
name-solid Drop = refl
name-solid Work = refl

-- a command's name is its own
pub command_of-name : (command : Command) → command_of (name_of command) ≡ Some command
command_of-name Join = refl
command_of-name Dialled = refl
command_of-name Came = refl
command_of-name Lost = refl
command_of-name Told = refl
command_of-name Fired = refl
command_of-name Lift = refl
command_of-name Drop = refl
command_of-name Work = refl
