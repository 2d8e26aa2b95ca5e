use Rattle.cmd_bench.proofs.OpenLemmas.{own_is}
use Rattle.cmd_bench.proofs.nodes.own_registries.Goals as goal

-- the first of them, if there are as many
pub returns : goal.returns
returns g c = own_is _ c.args.registries.now c.args.shards c.min-count.result c.min-count.ensures
