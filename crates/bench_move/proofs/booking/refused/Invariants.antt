use Rattle.std.proofs.Common.{◌≡◌, filter, length, take}
use Rattle.std.specs.Prelude.{replicate}
use Rattle.acct_totals.specs.declared.op.Outcome.TheVariants.{Refused}
use Rattle.bench_spec.specs.Booked.{is_booking}
use Rattle.bench_move.proofs.booking.refused.Given as goal

abbrev pub invariant-loop-deed : goal.invariant-loop-deed
invariant-loop-deed l = l.outcomes.items ≡ replicate (length (filter is_booking (take l.deed-index l.deeds))) Refused
