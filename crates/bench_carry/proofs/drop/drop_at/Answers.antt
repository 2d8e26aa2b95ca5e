use Rattle.std.proofs.Common.{◌≡◌, ◌∙◌, ap, arith, drop, length, subst, sym}
use Rattle.bench_views.specs.Behind.{dropped_from}
use Rattle.bench_views.specs.Stored.{Stored}
use Rattle.bench_carry.specs.Dropped.{DropsTo, meaning_to, with_arrived, with_parts}
use Rattle.bench_carry.specs.Hands.{Holds, with_hands}
use Rattle.bench_carry.specs.Seen.{views_of}
use Rattle.bench_carry.proofs.DropLemmas.{drops-arrived, front-of, holds-arrived, no_parts}
use Rattle.bench_carry.proofs.drop.drop_at.Goals as goal

pub empty_hand-requires : goal.empty_hand-requires
empty_hand-requires c =
    subst (λ carried. Holds c.args.source c.arrive.new.shards c.args.outboxes.now c.lifted_by-lifted.result carried)
    (sym c.deref_mut.ensures.value)
    (holds-arrived (meaning_to c.args.lines.now.rules) c.args.source c.args.item.now
    (with_arrived no_parts c.args.shards.now c.args.lines.now.lines c.args.carried.now.items c.args.wheel.now.armed)
    (with_arrived no_parts c.arrive.new.shards c.arrive.new.lines.lines c.arrive.new.carried.items c.arrive.new.wheel.armed)
    c.args.outboxes.now c.lifted_by-lifted.result
    (subst (λ n. Holds c.args.source c.args.shards.now c.args.outboxes.now n c.args.carried.now.items)
    (sym c.lifted_by-lifted.ensures) c.requires.held)
    (c.in_ok-arrival.ensures.came no_parts))

pub returns-clause-dropped : goal.returns-clause-dropped
returns-clause-dropped c =
    let size : c.arrive.new.carried.len ≡ length c.empty_hand.new.carried = omega
    (arith, c.empty_hand.auto.carried, c.deref_mut.ensures.len) in
    let holds : Holds c.args.source c.args.shards.now c.args.outboxes.now c.lifted_by-lifted.result c.args.carried.now.items =
    subst (λ n. Holds c.args.source c.args.shards.now c.args.outboxes.now n c.args.carried.now.items)
    (sym c.lifted_by-lifted.ensures) c.requires.held in
    λ s.
    let old : Stored = with_parts s c.args.shards.now c.args.outboxes.now c.args.lines.now.lines c.args.carried.now.items c.args.wheel.now.armed in
    let mid : Stored = with_parts s c.arrive.new.shards c.args.outboxes.now c.arrive.new.lines.lines c.arrive.new.carried.items c.arrive.new.wheel.armed in
    subst
    (λ carried. DropsTo (meaning_to c.args.lines.now.rules) c.args.source c.args.item.now old
    (with_parts s c.empty_hand.new.shards c.empty_hand.new.outboxes c.arrive.new.lines.lines carried c.arrive.new.wheel.armed))
    (sym (front-of c.arrive.new.carried.len c.empty_hand.new.carried (drop
    (length c.empty_hand.new.carried) c.arrive.new.carried.items) size))
    (drops-arrived (meaning_to c.args.lines.now.rules) c.args.source c.args.item.now old mid
    (with_parts s c.empty_hand.new.shards c.empty_hand.new.outboxes c.arrive.new.lines.lines c.empty_hand.new.carried c.arrive.new.wheel.armed)
    c.args.outboxes.now c.lifted_by-lifted.result holds
    (c.in_ok-arrival.ensures.came (record s { outboxes = views_of c.args.outboxes.now }))
    (c.empty_hand.ensures.dropped mid
    ∙ ap (λ carried. dropped_from c.args.source
    (with_hands mid c.arrive.new.shards c.args.outboxes.now mid.lines carried)) c.deref_mut.ensures.value))

pub returns-clause-placed : goal.returns-clause-placed
returns-clause-placed c = c.in_ok-arrival.ensures.placed c.args.source
