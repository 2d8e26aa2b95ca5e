use Rattle.std.proofs.Common.{[], ap, map, refl}
use Rattle.bench_open.specs.Given.{opened_as}
use Rattle.bench_start.specs.Starting.{settings_with}
use Rattle.bench_core.proofs.StartLemmas.{each-pages, none-paused, start-whole}
use Rattle.bench_core.proofs.keeping.Core.open.Goals as goal

pub invariant_of-result : goal.invariant_of-result
invariant_of-result c = record {
  whole =
      rw (
        c.in_ok-roles.ensures,
        c.new-2.ensures.value,
        c.in_ok-listener.ensures,
        c.in_ok-all_shards.ensures.shards,
        c.in_ok-outboxes.ensures,
        c.in_ok-all_pages.ensures,
        c.new-3.ensures.items,
        c.new-4.ensures,
        c.new-5.ensures,
        c.new-6.ensures,
        c.in_ok-peers.ensures,
        c.deref.ensures.value,
        c.deref-2.ensures.value,
      ) (start-whole (settings_with c.args.config c.args.laws.now) (rw (c.in_ok-peers.ensures, c.deref.ensures.value) at c.in_ok-all_shards.ensures.stand));
  listens = rw (c.new-2.ensures.value, c.in_ok-listener.ensures, c.in_ok-roles.ensures) refl;
  pages = rw (c.in_ok-all_pages.ensures) (each-pages c.args.config.pages (map opened_as c.deref-2.result.now));
  paged = c.requires.some_page;
  shards = rw (c.new-2.ensures.value, c.in_ok-listener.ensures, c.in_ok-peers.ensures) (c.requires.some_shard, c.requires.few_shards);
  placed = rw (c.new-6.ensures) tt;
}

pub returns : goal.returns
returns c =
    rw (c.in_ok-roles.ensures, c.new-2.ensures.value, c.in_ok-listener.ensures, c.in_ok-all_shards.ensures.shards, c.new-5.ensures, c.in_ok-peers.ensures, c.deref.ensures.value)
    (ap (λ paused. record { settings = settings_with c.args.config c.args.laws.now; log = []; paused = paused }) (none-paused _ c.args.config.shards))
