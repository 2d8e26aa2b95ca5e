-- All lines as they are kept, what happened to each, and why a call is refused.
use Rattle.std.specs.Prelude.{◌≡◌, ◌<◌, ◌==◌, false, ◌+◌, ◌-◌, ℕ, zero, suc, Bool, nat_le, nat_lt, List, [], ◌∷◌, ◌++◌}
use Rattle.std.specs.Prelude.{length, Option, Some, None, slice_get, option_map, if◌then◌else◌}
use Rattle.std.specs.Option.{option_and_then, option_map_or}
use Rattle.dia_frame.specs.declared.fault.FrameFault.{FrameFault}
use Rattle.bench_item.specs.declared.limit.TheConstants.{MAX_LINES, MAX_WAITING}
use Rattle.bench_item.specs.declared.item.Item.{Item}
use Rattle.bench_item.specs.declared.line_state.LineState.{LineState}
use Rattle.bench_item.specs.declared.line_state.LineState.TheVariants as at
use Rattle.bench_item.specs.declared.opening.Opening.{Opening}
use Rattle.bench_item.specs.Lines.{LineStep}
use Rattle.bench_item.specs.declared.step.StepFault.{StepFault}
use Rattle.bench_item.specs.declared.step.StepFault.TheVariants as faults
use Rattle.bench_line.specs.Line.{LineView, Stands}
use Rattle.bench_line.specs.Talk.{Meaning, fault_met, stream_of}

-- who knows what messages mean, and the lines: line 1 is the first
pub record LinesView (T : Type 0) : Type 0 where
  pub rules : T
  pub lines : List LineView

-- the line of a number
abbrev pub line_at : List LineView → ℕ → Option LineView
line_at lines line = if line == 0 then None else slice_get lines (line - 1)

-- the lines with another one at a place; the first is at place 0
abbrev pub with_line_at : ℕ → (LineView → LineView) → List LineView → List LineView
with_line_at place f [] = []
with_line_at zero f (l ∷ lines) = f l ∷ lines
with_line_at (suc place) f (l ∷ lines) = l ∷ with_line_at place f lines

-- the lines with another one under a number
abbrev pub with_line : ℕ → (LineView → LineView) → List LineView → List LineView
with_line line f lines = if line == 0 then lines else with_line_at (line - 1) f lines

-- the oldest item that waits on a line is lifted, if one does
abbrev pub lifted_one : LineView → LineView
lifted_one l = if nat_lt l.lifted (length l.outbox) then record l { lifted = l.lifted + 1 } else l

-- the last item that was lifted waits again
abbrev pub unlifted_one : LineView → LineView
unlifted_one l = record l { lifted = l.lifted - 1 }

-- the oldest item that waits on a line
abbrev pub next_on : List LineView → ℕ → Option Item
next_on lines line = option_and_then (λ l. slice_get l.outbox l.lifted) (line_at lines line)

-- an item that a line put out, and how many were lifted
abbrev pub item_on : List LineView → ℕ → ℕ → Option Item
item_on lines line place = option_and_then (λ l. slice_get l.outbox place) (line_at lines line)

abbrev pub lifted_on : List LineView → ℕ → ℕ
lifted_on lines line = option_map_or (λ l. l.lifted) (line_at lines line) 0

-- where a line stands, and all that it has sent
abbrev pub state_on : List LineView → ℕ → Option LineState
state_on lines line = option_map (λ l. l.state) (line_at lines line)

abbrev pub sent_on : List LineView → ℕ → List ℕ
sent_on lines line = option_map_or (λ l. l.sent) (line_at lines line) []

-- how a line was opened, and what happened to it since
pub record Past : Type 0 where
  pub opening : Opening
  pub happened : List LineStep

-- one more step behind what happened to a line
abbrev pub one_more : LineStep → Past → Past
one_more step past = record { opening = past.opening; happened = past.happened ++ step ∷ [] }

-- one more step behind what happened to the line at a place; the first line is at place 0
abbrev pub with_step_at : ℕ → LineStep → List Past → List Past
with_step_at place step [] = []
with_step_at zero step (past ∷ pasts) = one_more step past ∷ pasts
with_step_at (suc place) step (past ∷ pasts) = past ∷ with_step_at place step pasts

abbrev pub with_step : ℕ → LineStep → List Past → List Past
with_step line step pasts = if line == 0 then pasts else with_step_at (line - 1) step pasts

-- a line that was just opened stands behind the others
abbrev pub opened : Opening → List Past → List Past
opened opening pasts = pasts ++ record { opening = opening; happened = [] } ∷ []

-- The lines from this number on are what was done to them makes of them, each by itself.
abbrev pub StandFrom : Meaning → ℕ → List LineView → List Past → Type 0
StandFrom m line [] [] = Unit {0}
StandFrom m line (l ∷ lines) (past ∷ pasts) =
    Stands m line l past.opening past.happened × StandFrom m (line + 1) lines pasts
StandFrom m line lines pasts = ⊥

-- The lines are what was done to each makes of it.
pub record AreLinesAfter (m : Meaning) (all : List LineView) (pasts : List Past) : Type 0 where
  pub each : StandFrom m 1 all pasts

-- the fault that a piece shows on a line, where no message closes the line before it
abbrev pub fault_at : Meaning → ℕ → List ℕ → List Past → Option FrameFault
fault_at m line piece pasts =
    if line == 0 then None
    else option_and_then
    (λ past. fault_met m line past.opening (stream_of past.happened ++ piece))
    (slice_get pasts (line - 1))

-- how many items a line has put out
abbrev pub put_out : List LineView → ℕ → ℕ
put_out lines line = option_map_or (λ l. length l.outbox) (line_at lines line) 0

-- as many items wait on a line as may
abbrev pub is_crowded : LineView → Bool
is_crowded l = nat_le MAX_WAITING (length l.outbox - l.lifted)

abbrev pub full_of : LineView → Option StepFault
full_of l = if is_crowded l then Some faults.Full else None

-- why a line is not opened
abbrev pub opening_refusal : List LineView → Option StepFault
opening_refusal lines = if nat_le MAX_LINES (length lines) then Some faults.Full else None

-- why a call on a line is refused: there is none of that number, or what the line says
abbrev pub refusal_by : (LineView → Option StepFault) → Option LineView → Option StepFault
refusal_by refused None = Some faults.Unknown
refusal_by refused (Some l) = refused l

-- why an acknowledgement is refused
abbrev pub dialled_refused : LineView → LineState → Option StepFault
dialled_refused l at.Closed = Some faults.Closed
dialled_refused l at.Open = Some faults.Nothing
dialled_refused l (at.Dialling peer) = full_of l

abbrev pub dialled_refusal : List LineView → ℕ → Option StepFault
dialled_refusal lines line = refusal_by (λ l. dialled_refused l l.state) (line_at lines line)

-- why a piece is refused: the octets of a line that is being dialled are no messages yet
abbrev pub came_refused : LineView → LineState → Option StepFault
came_refused l at.Open = full_of l
came_refused l state = Some faults.Closed

abbrev pub came_refusal : List LineView → ℕ → Option StepFault
came_refusal lines line = refusal_by (λ l. came_refused l l.state) (line_at lines line)

-- why a loss is refused
abbrev pub lost_refused : LineView → LineState → Option StepFault
lost_refused l at.Closed = Some faults.Closed
lost_refused l state = full_of l

abbrev pub lost_refusal : List LineView → ℕ → Option StepFault
lost_refusal lines line = refusal_by (λ l. lost_refused l l.state) (line_at lines line)

-- The line of that number is at that place.
pub record IsPlace (lines : List LineView) (line place : ℕ) : Type 0 where
  pub some : (line == 0) ≡ false
  pub is : place ≡ line - 1
  pub within : place < length lines
