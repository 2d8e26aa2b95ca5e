use Rattle.std.proofs.Common.{◌≡◌, drop}
use Rattle.std.specs.Prelude.{find, ◌==◌}
use Rattle.step_text.proofs.write.put_machine.Given as goal

-- nothing is put yet, and the machine is among those that are left
abbrev pub invariant-loop-entry : goal.invariant-loop-entry
invariant-loop-entry l =
    (l.out ≡ l.initial.out) × (find (λ entry. entry.value == l.machine) (drop l.entry-index l.entry-items) ≡ find (λ entry. entry.value == l.machine) l.machines)
