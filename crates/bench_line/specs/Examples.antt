-- Lines with known values, by rules that tell each message's first octet behind its length: a wrong definition doesn't
-- pass these lines.
use Rattle.std.specs.Prelude.{◌≡◌, ◌==◌, ◌++◌, ℕ, List, [], ◌∷◌, Option, Some, None, take, drop, replicate, slice_index}
use Rattle.std.specs.Prelude.{refl}
use Rattle.dia_frame.specs.declared.fault.FrameFault.TheVariants.{Version}
use Rattle.bench_item.specs.declared.hears.Turn.{Turn}
use Rattle.bench_item.specs.declared.hears.LineEvent.{LineEvent}
use Rattle.bench_item.specs.declared.hears.LineEvent.TheVariants as event
use Rattle.bench_item.specs.declared.item.Item.{Item}
use Rattle.bench_item.specs.declared.item.Item.TheVariants.{Disarm}
use Rattle.bench_item.specs.declared.line_state.LineState.TheVariants as at
use Rattle.bench_item.specs.declared.opening.Opening.TheVariants.{Accepted, Dialled}
use Rattle.bench_item.specs.Lines.{LineStep, Acknowledged, Received, Gone, sent_of, state_of}
use Rattle.bench_line.specs.Messages.{cut_by, messages, rest_of}
use Rattle.bench_line.specs.Talk.{Meaning, answers_to, fault_met, is_cut, posts_by, posts_of, rules_of, turns}
use Rattle.bench_line.specs.Talk.{after_turns, at_first}

-- a message of 20 octets
abbrev message : ℕ → List ℕ
message n = 1 ∷ 0 ∷ 0 ∷ 20 ∷ n ∷ replicate 15 0

-- each message puts out and answers its number, and greets as that; 9 closes
abbrev turn_of : ℕ → Turn
turn_of n = record { post = Some (Disarm n); answer = n ∷ []; greeted = Some n; closes = n == 9 }

abbrev turned : LineEvent → Option Item
turned event.Acknowledged = Some (Disarm 100)
turned event.Refused = Some (Disarm 101)
turned event.Disconnected = Some (Disarm 102)

abbrev echo : Meaning
echo = record { heard = λ at octets. turn_of (slice_index octets 4); turned = λ at. turned; octets_of = λ item. [] }

-- two messages in other pieces
abbrev pieces : List LineStep
pieces = Received (take 7 (message 1)) ∷ Received (drop 7 (message 1) ++ message 2 ++ 1 ∷ []) ∷ []

pub two_messages : messages (message 1 ++ message 2 ++ 1 ∷ []) ≡ message 1 ∷ message 2 ∷ []
unfolding messages cut_by
two_messages = refl

pub two_posts : posts_of echo 1 Accepted pieces ≡ Disarm 1 ∷ Disarm 2 ∷ []
unfolding posts_by turns messages cut_by rest_of
two_posts = refl

pub two_answers : sent_of (rules_of echo 1) echo.octets_of Accepted pieces ≡ 1 ∷ 2 ∷ []
unfolding answers_to is_cut turns messages cut_by rest_of
two_answers = refl

-- the first greeting stays
pub first_greets : (after_turns (at_first 1 Accepted) (turns echo 1 Accepted (message 1 ++ message 2))).greeted ≡ Some 1
unfolding turns messages cut_by
first_greets = refl

-- a message before a fault is heard, and the fault closes the line
pub fault_behind : posts_of echo 1 Accepted (Received (message 1 ++ 2 ∷ []) ∷ []) ≡ Disarm 1 ∷ Disarm 102 ∷ []
unfolding posts_by turns messages cut_by rest_of
fault_behind = refl

pub fault_closes : state_of (rules_of echo 1) Accepted (Received (message 1 ++ 2 ∷ []) ∷ []) ≡ at.Closed
unfolding is_cut turns messages cut_by rest_of
fault_closes = refl

pub fault_is_met : fault_met echo 1 Accepted (message 1 ++ 2 ∷ []) ≡ Some Version
unfolding fault_met turns messages cut_by rest_of
fault_is_met = refl

-- a message that closes the line comes before what is behind it
pub close_first : posts_of echo 1 Accepted (Received (message 9 ++ message 1 ++ 2 ∷ []) ∷ []) ≡ Disarm 9 ∷ []
unfolding posts_by turns messages cut_by rest_of
close_first = refl

pub no_fault_met : fault_met echo 1 Accepted (message 9 ++ 2 ∷ []) ≡ None
unfolding fault_met turns messages cut_by rest_of
no_fault_met = refl

-- a dial that is refused, and one that is acknowledged and then lost
pub refused : posts_of echo 1 (Dialled 0 3) (Gone ∷ []) ≡ Disarm 101 ∷ []
unfolding posts_by turns messages cut_by rest_of
refused = refl

pub acknowledged : posts_of echo 1 (Dialled 0 3) (Acknowledged ∷ Received (message 1) ∷ Gone ∷ [])
    ≡ Disarm 100 ∷ Disarm 1 ∷ Disarm 102 ∷ []
unfolding posts_by turns messages cut_by rest_of
acknowledged = refl
