use Rattle.std.proofs.Common.{◌∙◌, sym, ap, subst, length, rules, []}
use Rattle.sess_dir.specs.Names.{NoNameTwice}
use Rattle.bench_shard.proofs.NewLemmas.{new-machines, new-stands}
use Rattle.bench_shard.proofs.OpenLemmas.{length-starts}
use Rattle.bench_shard.specs.Stands.{Stands}
use Rattle.bench_shard.specs.View.{peer_names}
use Rattle.bench_shard.proofs.state.ShardState.new.Goals as goal

pub invariant_of-result : goal.invariant_of-result
invariant_of-result c = record {
  here = c.requires;
  each = ap length c.in_ok-add_peers.ensures.states ∙ length-starts c.args.number (length c.add_peers.new.names);
}

pub returns-clause-opened : goal.returns-clause-opened
returns-clause-opened c = search rules

pub returns-clause-stands : goal.returns-clause-stands
returns-clause-stands c settings is =
    let once : NoNameTwice (peer_names c.args.peers.shards c.args.number c.args.peers.hosts) = subst NoNameTwice c.in_ok-add_peers.ensures.names c.len-count.ensures.once in
    subst (Stands settings []) (sym (returns-clause-opened c)) (new-stands settings c.args.number c.args.peers c.requires once is)

pub returns-clause-machines : goal.returns-clause-machines
returns-clause-machines c laws =
    let once : NoNameTwice (peer_names c.args.peers.shards c.args.number c.args.peers.hosts) = subst NoNameTwice c.in_ok-add_peers.ensures.names c.len-count.ensures.once in
    new-machines laws c.args.number c.args.peers _ once (returns-clause-opened c)
