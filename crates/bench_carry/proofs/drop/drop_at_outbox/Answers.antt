use Rattle.std.proofs.Common.{◌∙◌, ap}
use Rattle.std.specs.Prelude.{get_or}
use Rattle.bench_queue.specs.Outbox.{has_hand, dropped_one, undropped_one}
use Rattle.bench_carry.proofs.LiftLemmas.{read_at, read_test, views-back}
use Rattle.bench_carry.proofs.PartLemmas.{views-set}
use Rattle.bench_carry.proofs.drop.drop_at_outbox.Goals as goal

pub returns-clause-dropped : goal.returns-clause-dropped
returns-clause-dropped c =
    let read = c.index-outboxes-place.result in
    let old = get_or c.args.outboxes.now c.args.place read in
    views-set c.args.outboxes.now c.args.place old c.drop_hand.new.self dropped_one
    (read_at c.args.outboxes.now c.args.place c.requires.0 read c.requires.1) (ap (λ o. o.view) c.drop_hand.ensures.dropped)

pub returns-clause-undone : goal.returns-clause-undone
returns-clause-undone c =
    let read = c.index-outboxes-place.result in
    let old = get_or c.args.outboxes.now c.args.place read in
    views-back c.args.outboxes.now c.args.place old c.drop_hand.new.self dropped_one undropped_one
    (read_at c.args.outboxes.now c.args.place c.requires.0 read c.requires.1) (ap (λ o. o.view) c.drop_hand.ensures.dropped)
    (c.drop_hand.ensures.undone (c.drop_hand.ensures.is ∙ read_test c.args.outboxes.now c.args.place c.requires.0 read
    (λ o. has_hand o.view) c.requires.1 c.requires.2))
