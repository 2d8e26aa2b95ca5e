use Rattle.std.proofs.Common.{◌∙◌}
use Rattle.std.specs.Prelude.{get_or}
use Rattle.bench_queue.specs.Outbox.{has_hand, dropped_one, undropped_one}
use Rattle.bench_shard.specs.View.{with_outbox}
use Rattle.bench_carry.proofs.LiftLemmas.{read_at, read_test, set-back, set-changed}
use Rattle.bench_carry.proofs.drop.drop_of_shard.Goals as goal

pub returns-clause-dropped : goal.returns-clause-dropped
returns-clause-dropped c =
    let read = c.index-shards-place.result in
    let old = get_or c.args.shards.now c.args.place read in
    set-changed c.args.shards.now c.args.place old c.drop_hand.new.self (λ v. with_outbox v (dropped_one v.outbox))
    (read_at c.args.shards.now c.args.place c.requires.0 read c.requires.1) c.drop_hand.ensures.dropped

pub returns-clause-undone : goal.returns-clause-undone
returns-clause-undone c =
    let read = c.index-shards-place.result in
    let old = get_or c.args.shards.now c.args.place read in
    set-back c.args.shards.now c.args.place old c.drop_hand.new.self (λ v. with_outbox v (dropped_one v.outbox)) (λ v. with_outbox v
    (undropped_one v.outbox))
    (read_at c.args.shards.now c.args.place c.requires.0 read c.requires.1) c.drop_hand.ensures.dropped
    (c.drop_hand.ensures.undone (c.drop_hand.ensures.is ∙ read_test c.args.shards.now c.args.place c.requires.0 read
    (λ v. has_hand v.outbox) c.requires.1 c.requires.2))
