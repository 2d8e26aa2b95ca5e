-- Before the first entry nothing was put out, carried or handled.
use Rattle.std.proofs.Common.{[], refl, arith}
use Rattle.bench_spec.specs.Items.{InOrder, posts}
use Rattle.bench_spec.specs.Settings.{Settings}

pub order-none : (settings : Settings) → InOrder settings []
order-none settings = record {
  sources = λ source. record {
    lifted_front = (posts settings [] source, refl);
    dropped_front = ([], refl);
    one_between = omega arith;
  };
  shards = λ shard. ([], refl);
}
