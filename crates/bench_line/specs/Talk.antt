-- What a line puts out and answers by itself, by what messages mean.
use Rattle.std.specs.Prelude.{ℕ, Bool, true, false, ◌||◌, List, [], ◌∷◌, ◌++◌, length, drop, fold, flat_map, Option}
use Rattle.std.specs.Prelude.{None, is_some, option_to_list, if◌then◌else◌}
use Rattle.std.specs.List.{list_any}
use Rattle.std.specs.Option.{option_or}
use Rattle.dia_frame.specs.declared.fault.FrameFault.{FrameFault}
use Rattle.bench_item.specs.declared.hears.Heard.{Heard}
use Rattle.bench_item.specs.declared.hears.Turn.{Turn}
use Rattle.bench_item.specs.declared.hears.LineEvent.{LineEvent}
use Rattle.bench_item.specs.declared.hears.LineEvent.TheVariants as event
use Rattle.bench_item.specs.declared.item.Item.{Item}
use Rattle.bench_item.specs.declared.item.LineItem.{LineItem}
use Rattle.bench_item.specs.declared.opening.Opening.{Opening}
use Rattle.bench_item.specs.declared.opening.Opening.TheVariants.{Accepted, Dialled}
use Rattle.bench_item.specs.Lines.{LineStep, Received, Gone, LineRules, is_acknowledgement}
use Rattle.bench_line.specs.Messages.{messages, fault_in}

-- what a message and an event mean to a line, and which octets a deed sends
pub record Meaning : Type 0 where
  pub heard : Heard → List ℕ → Turn
  pub turned : Heard → LineEvent → Option Item
  pub octets_of : LineItem → List ℕ

-- the meaning that rules of any kind give
abbrev pub meaning : {T : Type 0} → (T → Heard → List ℕ → Turn) → (T → Heard → LineEvent → Option Item)
    → (T → LineItem → List ℕ) → T → Meaning
meaning heard turned octets_of rules =
    record { heard = heard rules; turned = turned rules; octets_of = octets_of rules }

-- the line as a message finds it that comes behind a turn: what greeted it first stays
abbrev pub after_turn : Heard → Turn → Heard
after_turn at turn = record { line = at.line; opening = at.opening; greeted = option_or at.greeted turn.greeted }

-- what a line makes of messages in their order, up to the first that closes it
abbrev pub turns_by : (Heard → List ℕ → Turn) → Heard → List (List ℕ) → List Turn
turns_by heard at [] = []
turns_by heard at (m ∷ ms) =
    heard at m ∷ (if (heard at m).closes then [] else turns_by heard (after_turn at (heard at m)) ms)

-- the line as the first message finds it
abbrev pub at_first : ℕ → Opening → Heard
at_first line opening = record { line = line; opening = opening; greeted = None }

-- what a line makes of a stream
unfoldable pub turns : Meaning → ℕ → Opening → List ℕ → List Turn
turns m line opening stream = turns_by m.heard (at_first line opening) (messages stream)

abbrev pub does_close : Turn → Bool
does_close turn = turn.closes

-- the line behind all turns
abbrev pub after_turns : Heard → List Turn → Heard
after_turns at done = fold after_turn at done

-- the items that turns put out, and what they answer
abbrev pub posts_in : List Turn → List Item
posts_in done = flat_map (λ turn. option_to_list turn.post) done

abbrev pub answers_in : List Turn → List ℕ
answers_in done = flat_map (λ turn. turn.answer) done

-- whether a message of the stream closes the line, or else its fault does
unfoldable pub is_cut : Meaning → ℕ → Opening → List ℕ → Bool
is_cut m line opening stream = list_any does_close (turns m line opening stream) || is_some (fault_in stream)

-- the fault of a stream, none where a message before it closes the line
unfoldable pub fault_met : Meaning → ℕ → Opening → List ℕ → Option FrameFault
fault_met m line opening stream = if list_any does_close (turns m line opening stream) then None else fault_in stream

abbrev pub octets_in : LineStep → List ℕ
octets_in (Received piece) = piece
octets_in step = []

abbrev pub is_loss : LineStep → Bool
is_loss Gone = true
is_loss step = false

-- the octets that came, joined
abbrev pub stream_of : List LineStep → List ℕ
stream_of happened = flat_map octets_in happened

-- what the end of a line is to it: refused where its dial was not acknowledged
abbrev pub end_event : Opening → Bool → LineEvent
end_event Accepted acknowledged = event.Disconnected
end_event (Dialled peer generation) acknowledged = if acknowledged then event.Disconnected else event.Refused

-- what the end puts out: a loss or a fault of the stream, where no message closed the line before
abbrev pub end_posts : Meaning → ℕ → Opening → Bool → Bool → List ℕ → List Item
end_posts m line opening acknowledged gone stream =
    if list_any does_close (turns m line opening stream) then []
    else if gone || is_some (fault_in stream)
    then option_to_list
    (m.turned
    (after_turns (at_first line opening) (turns m line opening stream))
    (end_event opening acknowledged))
    else []

-- what the acknowledgement of the dial puts out
abbrev pub dial_posts : Meaning → ℕ → Opening → Bool → List Item
dial_posts m line opening acknowledged =
    if acknowledged then option_to_list (m.turned (at_first line opening) event.Acknowledged) else []

-- all that a line puts out, by whether its dial was acknowledged, whether it was lost, and the octets that came
unfoldable pub posts_by : Meaning → ℕ → Opening → Bool → Bool → List ℕ → List Item
posts_by m line opening acknowledged gone stream =
    dial_posts m line opening acknowledged
    ++ posts_in (turns m line opening stream)
    ++ end_posts m line opening acknowledged gone stream

-- all that a line puts out by what happened to it
abbrev pub posts_of : Meaning → ℕ → Opening → List LineStep → List Item
posts_of m line opening happened =
    posts_by m line opening
    (list_any is_acknowledgement happened) (list_any is_loss happened) (stream_of happened)

-- the answers to the messages that a piece completes behind a stream
unfoldable pub answers_to : Meaning → ℕ → Opening → List ℕ → List ℕ → List ℕ
answers_to m line opening stream piece =
    answers_in (drop (length (turns m line opening stream)) (turns m line opening (stream ++ piece)))

-- what octets mean to the line of that number
abbrev pub rules_of : Meaning → ℕ → LineRules
rules_of m line = record {
  posts = posts_of m line;
  ends = λ opening past piece. is_cut m line opening (stream_of past ++ piece);
  answers = λ opening past piece. answers_to m line opening (stream_of past) piece;
}
