use Rattle.std.proofs.Common.{◌∙◌, ap}
use Rattle.std.specs.Prelude.{get_or}
use Rattle.bench_queue.specs.Outbox.{can_lift, lifted_one, unlifted_one}
use Rattle.bench_carry.proofs.LiftLemmas.{read_at, read_test, views-back}
use Rattle.bench_carry.proofs.PartLemmas.{views-set}
use Rattle.bench_carry.proofs.lift.lift_outbox.Goals as goal

pub returns-clause-lifted : goal.returns-clause-lifted
returns-clause-lifted c =
    let read = c.index-outboxes-place.result in
    let old = get_or c.args.outboxes.now c.args.place read in
    views-set c.args.outboxes.now c.args.place old c.lift.new.self lifted_one
    (read_at c.args.outboxes.now c.args.place c.requires.0 read c.requires.1) (ap (λ o. o.view) c.lift.ensures.lifted)

pub returns-clause-undone : goal.returns-clause-undone
returns-clause-undone c =
    let read = c.index-outboxes-place.result in
    let old = get_or c.args.outboxes.now c.args.place read in
    views-back c.args.outboxes.now c.args.place old c.lift.new.self lifted_one unlifted_one
    (read_at c.args.outboxes.now c.args.place c.requires.0 read c.requires.1) (ap (λ o. o.view) c.lift.ensures.lifted)
    (c.lift.ensures.undone (c.lift.ensures.is ∙ read_test c.args.outboxes.now c.args.place c.requires.0 read (λ o. can_lift o.view) c.requires.1 c.requires.2))
