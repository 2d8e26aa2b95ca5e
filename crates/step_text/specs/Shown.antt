-- The parts of a line as they stand there, and what they are:
-- names in which octets are `%` and two digits, octets in hexadecimal.
use Rattle.std.specs.Prelude.{ℕ, ◌+◌, ◌*◌, ◌&&◌, Bool, true, false, List, [], ◌∷◌, is_some}
use Rattle.hex.specs.Hex.{hex_digit_value}
use Rattle.bench_item.specs.declared.key.Key.{Key}
use Rattle.bench_item.specs.declared.step.Step.{Step}
use Rattle.bench_item.specs.declared.step.Step.TheVariants as step
use Rattle.step_text.specs.Guess.{nibble, unshown}
use Rattle.step_text.specs.declared.shown.ShownKey.{ShownKey}
use Rattle.step_text.specs.declared.shown.ShownStep.{ShownStep}
use Rattle.step_text.specs.declared.shown.ShownStep.TheVariants.{Joined, Dialled, Came, Lost, Told, Fired}
use Rattle.step_text.specs.declared.shown.ShownStep.TheVariants.{Lift, Drop, Work}

-- pairs of hexadecimal digits
abbrev pub are_pairs : List ℕ → Bool
are_pairs [] = true
are_pairs (digit ∷ []) = false
are_pairs (high ∷ low ∷ others) = is_some (hex_digit_value high) && is_some (hex_digit_value low) && are_pairs others

-- the octets of such pairs
abbrev pub octets_in : List ℕ → List ℕ
octets_in [] = []
octets_in (digit ∷ []) = []
octets_in (high ∷ low ∷ others) = (nibble high * 16 + nibble low) ∷ octets_in others

abbrev pub key_shown : ShownKey → Key
key_shown key = record { role = key.role; name = unshown key.name.now }

abbrev pub step_shown : ShownStep → Step
step_shown Joined = step.Joined
step_shown (Dialled line) = step.Dialled line
step_shown (Came line piece) = step.Came line (octets_in piece.now)
step_shown (Lost line) = step.Lost line
step_shown (Told desk key event) = step.Told desk (key_shown key) event
step_shown (Fired machine generation) = step.Fired machine generation
step_shown (Lift source) = step.Lift source
step_shown (Drop source) = step.Drop source
step_shown (Work shard) = step.Work shard
