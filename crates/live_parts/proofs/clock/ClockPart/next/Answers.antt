use Rattle.std.proofs.Common.{◌≡◌, false, subst, sym}
use Rattle.bench_desk.proofs.WorkLemmas.{next_waits}
use Rattle.bench_queue.specs.Outbox.{items_out}
use Rattle.bench_spec.specs.Refusal.{is_empty}
use Rattle.live_parts.specs.Clocks.{ClockView}
use Rattle.live_parts.proofs.clock.ClockPart.next.Goals as goal

pub unreachable-requires : goal.unreachable-requires
unreachable-requires c =
    next_waits c.self.inside.outbox.view (subst (λ (v : ClockView). is_empty (items_out v.outbox) ≡ false) (sym c.self.view_is) c.requires)
    (sym c.in-None.ensures)
