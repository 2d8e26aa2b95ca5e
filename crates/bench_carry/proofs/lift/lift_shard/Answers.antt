use Rattle.std.proofs.Common.{◌∙◌}
use Rattle.std.specs.Prelude.{get_or}
use Rattle.bench_queue.specs.Outbox.{can_lift, lifted_one, unlifted_one}
use Rattle.bench_shard.specs.View.{with_outbox}
use Rattle.bench_carry.proofs.LiftLemmas.{read_at, read_test, set-back, set-changed}
use Rattle.bench_carry.proofs.lift.lift_shard.Goals as goal

pub returns-clause-lifted : goal.returns-clause-lifted
returns-clause-lifted c =
    let read = c.index-shards-place.result in
    let old = get_or c.args.shards.now c.args.place read in
    set-changed c.args.shards.now c.args.place old c.lift.new.self (λ v. with_outbox v (lifted_one v.outbox))
    (read_at c.args.shards.now c.args.place c.requires.0 read c.requires.1) c.lift.ensures.lifted

pub returns-clause-undone : goal.returns-clause-undone
returns-clause-undone c =
    let read = c.index-shards-place.result in
    let old = get_or c.args.shards.now c.args.place read in
    set-back c.args.shards.now c.args.place old c.lift.new.self (λ v. with_outbox v (lifted_one v.outbox)) (λ v. with_outbox v (unlifted_one v.outbox))
    (read_at c.args.shards.now c.args.place c.requires.0 read c.requires.1) c.lift.ensures.lifted
    (c.lift.ensures.undone (c.lift.ensures.is ∙ read_test c.args.shards.now c.args.place c.requires.0 read (λ v. can_lift v.outbox) c.requires.1 c.requires.2))
