use Rattle.std.proofs.Common.{◌≡◌, ◌<◌, true, ap, arith, length, subst}
use Rattle.std.specs.Prelude.{map, slice_set}
use Rattle.bench_spec.specs.Taken.{with_paused}
use Rattle.bench_core.specs.Inside.{run_in, settings_in, stored_in}
use Rattle.bench_core.proofs.PauseLemmas.{paused-set, whole-paused}
use Rattle.bench_core.proofs.keeping.Core.pause.Goals as goal

pub invariant_of-self : goal.invariant_of-self
invariant_of-self c =
    let w = c.self.inside in
    let within : c.args.shard < length w.shards.items = omega arith in
    record {
      whole =
          whole-paused (settings_in w) w.log.entries w.undo.records c.args.shard true (stored_in w) c.index_mut.result.now c.pause.new.self
          c.self.invariant.whole within c.index_mut.ensures.value c.pause.ensures;
      listens = c.self.invariant.listens;
      pages = c.self.invariant.pages;
      paged = c.self.invariant.paged;
      shards = c.self.invariant.shards;
      placed = c.self.invariant.placed;
    }

pub returns-clause-paused : goal.returns-clause-paused
returns-clause-paused c is =
    let w = c.self.inside in
    subst
    (λ run. with_paused (run_in w) (map (λ v. v.paused) (slice_set w.shards.items c.args.shard c.pause.new.self)) ≡ with_paused run (slice_set run.paused c.args.shard true))
    c.self.view_is
    (ap (with_paused (run_in w)) (paused-set w.shards.items c.args.shard true c.index_mut.result.now c.pause.new.self c.pause.ensures))
