use Rattle.std.proofs.Common.{◌≡◌, drop}
use Rattle.std.specs.Prelude.{codes, decimal, ◌++◌}
use Rattle.std.specs.List.{flat_map}
use Rattle.step_text.specs.Matching.{left_of, without}
use Rattle.log_text.proofs.compare.compare_values.Given as goal

-- the values that are left are still to be compared
abbrev pub invariant-loop-value : goal.invariant-loop-value
invariant-loop-value l =
    without (flat_map (λ value. codes " " ++ decimal value) (drop l.value-index l.values)) (left_of l.matcher)
    ≡ without (flat_map (λ value. codes " " ++ decimal value) l.values) (left_of l.initial.matcher)
