-- What a live node does of itself: steps of its bench, and nothing else.
use Rattle.std.specs.Prelude.{Bool, false, true, List, None, Option, Some}
use Rattle.bench_item.specs.declared.line_state.LineState.{LineState}
use Rattle.bench_item.specs.declared.line_state.LineState.TheVariants.{Closed, Dialling, Open}
use Rattle.bench_item.specs.declared.step.Step.{Step}
use Rattle.bench_spec.specs.Taken.{Run, TakesAll}

-- steps were taken, one after the other: the log has their entries behind those that it had, and each may follow
-- those before it
pub record Goes (old new : Run) : Type 0 where
  pub steps : List Step
  pub taken : TakesAll old new steps

-- a connection is closed, or not there
abbrev pub is_closed : Option LineState → Bool
is_closed None = true
is_closed (Some Closed) = true
is_closed (Some Open) = false
is_closed (Some (Dialling peer)) = false

-- a connection is being dialled
abbrev pub is_dialling : Option LineState → Bool
is_dialling None = false
is_dialling (Some Closed) = false
is_dialling (Some Open) = false
is_dialling (Some (Dialling peer)) = true
