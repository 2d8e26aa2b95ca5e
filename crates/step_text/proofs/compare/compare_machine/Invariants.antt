use Rattle.std.proofs.Common.{◌≡◌, drop}
use Rattle.std.specs.Prelude.{find, ◌==◌}
use Rattle.step_text.specs.Matching.{left_of}
use Rattle.step_text.proofs.compare.compare_machine.Given as goal

-- nothing is compared yet, and the machine is among those that are left
abbrev pub invariant-loop-entry : goal.invariant-loop-entry
invariant-loop-entry l =
    (left_of l.matcher ≡ left_of l.initial.matcher)
    × (find (λ entry. entry.value == l.machine) (drop l.entry-index l.entry-items) ≡ find (λ entry. entry.value == l.machine) l.machines)
