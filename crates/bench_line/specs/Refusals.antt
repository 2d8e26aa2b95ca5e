-- Why a call on a line is refused, for the calls that a line may refuse.
use Rattle.std.specs.Prelude.{ℕ, List, Option}
use Rattle.bench_item.specs.declared.step.StepFault.{StepFault}
use Rattle.bench_line.specs.declared.places.Call.{Call}
use Rattle.bench_line.specs.declared.places.Call.TheVariants.{Dialled, Came, Lost}
use Rattle.bench_line.specs.Line.{LineView}
use Rattle.bench_line.specs.Lines.{dialled_refused, came_refused, lost_refused, dialled_refusal, came_refusal}
use Rattle.bench_line.specs.Lines.{lost_refusal}

-- why a line refuses a call
abbrev pub refused_by : Call → LineView → Option StepFault
refused_by Dialled l = dialled_refused l l.state
refused_by Came l = came_refused l l.state
refused_by Lost l = lost_refused l l.state

-- why a call on the line of that number is refused
abbrev pub refusal_of : Call → List LineView → ℕ → Option StepFault
refusal_of Dialled lines line = dialled_refusal lines line
refusal_of Came lines line = came_refusal lines line
refusal_of Lost lines line = lost_refusal lines line
