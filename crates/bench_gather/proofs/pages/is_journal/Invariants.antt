use Rattle.std.proofs.Common.{◌≡◌, ◌<◌, ℕ, get_or}
use Rattle.acct_totals.specs.declared.op.Booked.{Booked}
use Rattle.bench_gather.proofs.pages.is_journal.Given as goal

-- those so far are the same
abbrev pub invariant-loop-place : goal.invariant-loop-place
invariant-loop-place l = (k : ℕ) (d : Booked) → k < l.place → get_or l.booked k d ≡ get_or l.journal k d
