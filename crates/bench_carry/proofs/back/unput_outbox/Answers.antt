use Rattle.std.proofs.Common.{ap, sym}
use Rattle.bench_queue.specs.Outbox.{without_out}
use Rattle.bench_carry.proofs.BackLemmas.{views-past, views-within}
use Rattle.bench_carry.proofs.back.unput_outbox.Goals as goal

pub returns-then-place-outboxes : goal.returns-then-place-outboxes
returns-then-place-outboxes c =
    views-within c.args.outboxes.now c.args.place c.unput.new.self _ (λ v. without_out v c.args.count)
    c.if-place-outboxes.true (ap (λ o. o.view) c.unput.ensures)

pub returns-else-place-outboxes : goal.returns-else-place-outboxes
returns-else-place-outboxes c = sym (views-past c.args.outboxes.now c.args.place (λ v. without_out v c.args.count) c.if-place-outboxes.false)
