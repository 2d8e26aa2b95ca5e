-- The lines of a dial, before it is given up and after that is taken back.
use Rattle.std.specs.Prelude.{ℕ, List, [], ◌∷◌, drop, flat_map, if◌then◌else◌}
use Rattle.bench_item.specs.declared.line_state.LineState.{LineState}
use Rattle.bench_item.specs.Lines.{is_dial}
use Rattle.bench_line.specs.Line.{LineView}

-- where the lines of a dial stand, in order
abbrev pub states_of_dial : ℕ → ℕ → List LineView → List LineState
states_of_dial peer generation lines =
    flat_map (λ l. if is_dial peer generation l.opening then l.state ∷ [] else []) lines

-- a line that stands so, where there is a state for it
abbrev pub standing_as : List LineState → LineView → LineView
standing_as [] l = l
standing_as (state ∷ states) l = record l { state = state }

-- the lines of a dial stand so, in order; the others stay
abbrev pub redialled : ℕ → ℕ → List LineState → List LineView → List LineView
redialled peer generation states [] = []
redialled peer generation states (l ∷ lines) =
    if is_dial peer generation l.opening then standing_as states l ∷ redialled peer generation (drop 1 states) lines
    else l ∷ redialled peer generation states lines
