-- One line as it is kept, and what it is by what happened to it.
use Rattle.std.specs.Prelude.{◌≡◌, ◌≤◌, ◌==◌, ℕ, Bool, true, false, List, [], ◌∷◌, ◌++◌, length, Option, None}
use Rattle.std.specs.Prelude.{option_to_list, if◌then◌else◌}
use Rattle.std.specs.List.{list_any}
use Rattle.base_codes.specs.DeedCodes.{number_of}
use Rattle.base_codes.specs.declared.deed_code.DeedCode.TheVariants.{Close}
use Rattle.dia_frame.specs.Framer.{FramerState, Shows}
use Rattle.bench_item.specs.declared.hears.Heard.{Heard}
use Rattle.bench_item.specs.declared.hears.LineEvent.{LineEvent}
use Rattle.bench_item.specs.declared.hears.LineEvent.TheVariants as event
use Rattle.bench_item.specs.declared.item.Item.{Item}
use Rattle.bench_item.specs.declared.item.LineItem.{LineItem}
use Rattle.bench_item.specs.declared.line_state.LineState.{LineState}
use Rattle.bench_item.specs.declared.line_state.LineState.TheVariants.{Dialling, Open, Closed}
use Rattle.bench_item.specs.declared.opening.Opening.{Opening}
use Rattle.bench_item.specs.declared.opening.Opening.TheVariants.{Accepted, Dialled}
use Rattle.bench_item.specs.Lines.{LineStep, Acknowledged, Received, Gone, LineRules, is_acknowledgement, is_dial}
use Rattle.bench_item.specs.Lines.{state_of, sent_of}
use Rattle.bench_line.specs.declared.limit.TheConstants.{MAX_MESSAGE}
use Rattle.bench_line.specs.Messages.{messages}
use Rattle.bench_line.specs.Talk.{Meaning, rules_of, posts_of, stream_of, turns, does_close, is_loss, after_turns}
use Rattle.bench_line.specs.Talk.{at_first}

-- how it was opened, where it stands, its octets that are no message yet, who greeted it, all that it put out, how much
-- of that was lifted, and all that it sent
pub record LineView : Type 0 where
  pub opening : Opening
  pub state : LineState
  pub framer : FramerState
  pub greeted : Option ℕ
  pub outbox : List Item
  pub lifted : ℕ
  pub sent : List ℕ

abbrev pub first_state : Opening → LineState
first_state Accepted = Open
first_state (Dialled peer generation) = Dialling peer

-- a line that was just opened
abbrev pub new_line : Opening → LineView
new_line opening = record {
  opening = opening;
  state = first_state opening;
  framer = record { limit = MAX_MESSAGE; waiting = []; rest = []; broken = false };
  greeted = None;
  outbox = [];
  lifted = 0;
  sent = [];
}

-- the line as a message or an event finds it
abbrev pub found : ℕ → LineView → Heard
found line l = record { line = line; opening = l.opening; greeted = l.greeted }

-- its dial is acknowledged
abbrev pub acknowledged : Meaning → ℕ → LineView → LineView
acknowledged m line l = record l {
  state = Open;
  outbox = l.outbox ++ option_to_list (m.turned (found line l) event.Acknowledged);
}

-- what its loss is to it
abbrev pub loss_of : LineState → LineEvent
loss_of (Dialling peer) = event.Refused
loss_of state = event.Disconnected

-- it is lost
abbrev pub lost : Meaning → ℕ → LineView → LineView
lost m line l = record l {
  state = Closed;
  outbox = l.outbox ++ option_to_list (m.turned (found line l) (loss_of l.state));
}

-- where it stands behind a deed
abbrev pub state_behind : LineItem → LineState → LineState
state_behind item state = if item.deed.code == number_of Close then Closed else state

abbrev pub is_shut : LineState → Bool
is_shut Closed = true
is_shut state = false

-- a deed is dropped there: a closed line does nothing
abbrev pub delivered : Meaning → LineItem → LineView → LineView
delivered m item l =
    if is_shut l.state then l
    else record l { state = state_behind item l.state; sent = l.sent ++ m.octets_of item }

-- the line of a dial is closed
abbrev pub undialled : ℕ → ℕ → LineView → LineView
undialled peer generation l = if is_dial peer generation l.opening then record l { state = Closed } else l

-- The line is not closed: its octets are kept and heard, and nothing ended it.
pub record IsAlive (m : Meaning) (line : ℕ) (l : LineView) (opening : Opening) (happened : List LineStep) : Type 0 where
  pub shows : Shows l.framer MAX_MESSAGE (messages (stream_of happened)) (stream_of happened) None
  pub heard : l.framer.waiting ≡ []
  pub greeted : found line l ≡ after_turns (at_first line opening) (turns m line opening (stream_of happened))
  pub unclosed : list_any does_close (turns m line opening (stream_of happened)) ≡ false
  pub there : list_any is_loss happened ≡ false

-- What is kept of a line that is not closed. One that is being dialled has heard nothing.
abbrev pub Keeps : Meaning → ℕ → LineView → Opening → List LineStep → LineState → Type 0
Keeps m line l opening happened Closed = Unit {0}
Keeps m line l opening happened Open = IsAlive m line l opening happened
Keeps m line l opening happened (Dialling peer) =
    IsAlive m line l opening happened × (stream_of happened ≡ []) × (list_any is_acknowledgement happened ≡ false)

-- A step may come after those before it: an acknowledgement while the line is dialling, octets while it is open, a loss
-- until it is closed, and a deed always.
abbrev pub CanCome : LineRules → Opening → List LineStep → LineStep → Type 0
CanCome rules opening past Acknowledged = (peer : ℕ) × (state_of rules opening past ≡ Dialling peer)
CanCome rules opening past (Received piece) = state_of rules opening past ≡ Open
CanCome rules opening past Gone = state_of rules opening past ≡ Closed → ⊥
CanCome rules opening past step = Unit {0}

-- each step may come after those before it
abbrev pub EachCanCome : LineRules → Opening → List LineStep → List LineStep → Type 0
EachCanCome rules opening past [] = Unit {0}
EachCanCome rules opening past (step ∷ steps) =
    CanCome rules opening past step × EachCanCome rules opening (past ++ step ∷ []) steps

-- The line is what its opening and what happened to it make it, and each step of that may come.
pub record Stands (m : Meaning) (line : ℕ) (l : LineView) (start : Opening) (happened : List LineStep) : Type 0 where
  pub can_come : EachCanCome (rules_of m line) start [] happened
  pub opened : l.opening ≡ start
  pub state : l.state ≡ state_of (rules_of m line) start happened
  pub outbox : l.outbox ≡ posts_of m line start happened
  pub lifted : l.lifted ≤ length l.outbox
  pub sent : l.sent ≡ sent_of (rules_of m line) m.octets_of start happened
  pub keeps : Keeps m line l start happened l.state
