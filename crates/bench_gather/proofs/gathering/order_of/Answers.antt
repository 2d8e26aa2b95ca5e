use Rattle.std.proofs.Common.{◌∙◌, Global, Vec, subst}
use Rattle.std.specs.Prelude.{option_map}
use Rattle.bench_merge.specs.Order.{Merges}
use Rattle.bench_merge.specs.declared.merging.Placed.{Placed}
use Rattle.bench_gather.proofs.PartLemmas.{stamps-same}
use Rattle.bench_gather.proofs.gathering.order_of.Goals as goal

pub returns : goal.returns
returns c =
    subst (λ stamps. Merges stamps (option_map (λ (o : Vec Placed Global). o.items) c.in_ok-order.order))
    (c.deref.ensures.value ∙ c.in_ok-stamps.ensures ∙ stamps-same c.args.parts.now) c.in_ok-order.ensures
