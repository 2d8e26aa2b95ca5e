use Rattle.std.proofs.Common.{◌≡◌, ◌<◌, ℕ, true, None, slice_index_or}
use Rattle.tab_load.specs.Code.{instructions_of, landings, is_entry}
use Rattle.tab_load.proofs.checks.check_entries.Given as goal

abbrev pub invariant-loop-number : goal.invariant-loop-number
invariant-loop-number l = (other : ℕ) → other < l.number → is_entry (landings l.format (instructions_of l.scan.steps.items)) (slice_index_or l.entries other None) ≡ true
