-- What the messages of one piece come to, before any of it is kept.
use Rattle.std.specs.Prelude.{◌≡◌, ℕ, Bool, false, ◌||◌, List, [], ◌∷◌, ◌++◌, Option, None, is_some, option_to_list}
use Rattle.std.specs.Prelude.{if◌then◌else◌}
use Rattle.std.specs.List.{list_any}
use Rattle.dia_frame.specs.declared.fault.FrameFault.{FrameFault}
use Rattle.dia_frame.specs.Framer.{FramerState, Shows}
use Rattle.bench_item.specs.declared.hears.Heard.{Heard}
use Rattle.bench_item.specs.declared.hears.Turn.{Turn}
use Rattle.bench_item.specs.declared.hears.LineEvent.TheVariants as event
use Rattle.bench_item.specs.declared.item.Item.{Item}
use Rattle.bench_item.specs.declared.line_state.LineState.TheVariants.{Closed}
use Rattle.bench_item.specs.declared.opening.Opening.{Opening}
use Rattle.bench_item.specs.Lines.{LineStep, Received}
use Rattle.bench_line.specs.declared.limit.TheConstants.{MAX_MESSAGE}
use Rattle.bench_line.specs.Line.{LineView, Stands, found}
use Rattle.bench_line.specs.Messages.{messages, fault_in}
use Rattle.bench_line.specs.Talk.{Meaning, after_turn, after_turns, turns, turns_by, posts_in, answers_in, does_close}
use Rattle.bench_line.specs.Talk.{stream_of, fault_met}

-- the line behind the last message that was heard, what the messages made it put out and answer, and whether it closes
pub record RoundView : Type 0 where
  pub at : Heard
  pub posts : List Item
  pub answers : List ℕ
  pub closed : Bool

-- no message was heard yet
abbrev pub no_round : Heard → RoundView
no_round at = record { at = at; posts = []; answers = []; closed = false }

-- These messages were heard, from a line as the first of them found it.
pub record IsRound (m : Meaning) (start : Heard) (messages : List (List ℕ)) (round : RoundView) : Type 0 where
  pub at : round.at ≡ after_turns start (turns_by m.heard start messages)
  pub posts : round.posts ≡ posts_in (turns_by m.heard start messages)
  pub answers : round.answers ≡ answers_in (turns_by m.heard start messages)
  pub closed : round.closed ≡ list_any does_close (turns_by m.heard start messages)

-- One more message was heard, of which this is made.
pub record IsTurned (turn : Turn) (old new : RoundView) : Type 0 where
  pub at : new.at ≡ after_turn old.at turn
  pub posts : new.posts ≡ old.posts ++ option_to_list turn.post
  pub answers : new.answers ≡ old.answers ++ turn.answer
  pub closed : new.closed ≡ turn.closes

-- what a fault behind the messages puts out
abbrev pub fault_posts : Meaning → Bool → Heard → Option FrameFault → List Item
fault_posts m closed at fault =
    if closed then []
    else if is_some fault then option_to_list (m.turned at event.Disconnected)
    else []

-- The fault behind the messages ends the round, where no message closed the line.
pub record IsEnded (m : Meaning) (fault : Option FrameFault) (old new : RoundView) (ended : Option FrameFault)
    : Type 0 where
  pub at : new.at ≡ old.at
  pub posts : new.posts ≡ old.posts ++ fault_posts m old.closed old.at fault
  pub answers : new.answers ≡ old.answers
  pub closed : new.closed ≡ (old.closed || is_some fault)
  pub met : ended ≡ (if old.closed then None else fault)

-- What a piece comes to on a line that is open, behind a stream.
pub record IsHeard (m : Meaning) (line : ℕ) (l : LineView) (opening : Opening) (stream piece : List ℕ)
    (framer : FramerState) (round : RoundView) (ended : Option FrameFault) : Type 0 where
  pub new : List Turn
  pub turned : turns m line opening (stream ++ piece) ≡ turns m line opening stream ++ new
  pub at : round.at ≡ after_turns (found line l) new
  pub posts : round.posts
      ≡ posts_in new
      ++ fault_posts m (list_any does_close new) (after_turns (found line l) new) (fault_in (stream ++ piece))
  pub answers : round.answers ≡ answers_in new
  pub closed : round.closed ≡ (list_any does_close new || is_some (fault_in (stream ++ piece)))
  pub met : ended ≡ (if list_any does_close new then None else fault_in (stream ++ piece))
  pub shows : round.closed ≡ false → Shows framer MAX_MESSAGE (messages (stream ++ piece)) (stream ++ piece) None
  pub heard : round.closed ≡ false → framer.waiting ≡ []

-- what is kept of a round
abbrev pub kept : FramerState → RoundView → LineView → LineView
kept framer round l = record l {
  state = if round.closed then Closed else l.state;
  framer = framer;
  greeted = round.at.greeted;
  outbox = l.outbox ++ round.posts;
  sent = l.sent ++ round.answers;
}

-- A piece was held: octets that begin a message, or go on with one, of which nothing is heard yet.
pub record IsHolding (piece : List ℕ) (old new : LineView) : Type 0 where
  pub is : new ≡ record old { framer = record old.framer { rest = old.framer.rest ++ piece } }
  pub shows : (limit : ℕ) (handed : List (List ℕ)) (stream : List ℕ)
      → Shows old.framer limit handed stream None → Shows new.framer limit handed (stream ++ piece) None

-- Octets came on a line that was open: it stands for one step more, and this fault ended it, if one did.
pub record Receives (m : Meaning) (line : ℕ) (opening : Opening) (happened : List LineStep) (piece : List ℕ)
    (l : LineView) (ended : Option FrameFault) : Type 0 where
  pub stands : Stands m line l opening (happened ++ Received piece ∷ [])
  pub met : ended ≡ fault_met m line opening (stream_of happened ++ piece)
