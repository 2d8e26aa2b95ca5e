use Rattle.std.proofs.Common.{[], ap, ◌∙◌}
use Rattle.std.specs.Arc.{arc_value}
use Rattle.bench_start.proofs.ListLemmas.{more-by}
use Rattle.bench_desk.specs.Parts.{PartView}
use Rattle.bench_move.specs.Tables.{Tables}
use Rattle.bench_shard.specs.View.{ShardView, opened}
use Rattle.live_open.specs.Opening.{shard_at_start}
use Rattle.live_open.proofs.parts.open_shards.Goals as goal

abbrev with_nothing : Tables → ShardView → PartView
with_nothing tables shard = record { tables = tables; shard = shard; entries = [] }

pub loop-number-preserved : goal.loop-number-preserved
loop-number-preserved c =
    let tables = arc_value c.args.roles.now in
    more-by (shard_at_start tables c.args.peers.now) c.loop-number.number c.loop-number.parts.items c.push.new.self.items c.new-in-loop-number.result
    c.loop-number.invariant
    (c.new-in-loop-number.ensures ∙ ap (λ (t : Tables). with_nothing t c.in_ok-shard.shard) c.in_ok-try_clone.ensures
    ∙ ap (with_nothing tables) (c.in_ok-shard.ensures.opened ∙ ap (opened c.loop-number.number) c.in_ok-own.ensures))
    c.in_ok-push.ensures.items

-- its machines are those of its peers, whatever the laws
pub new-requires-in-loop-number-clause-machines : goal.new-requires-in-loop-number-clause-machines
new-requires-in-loop-number-clause-machines c = c.in_ok-shard.ensures.machines (arc_value c.in_ok-try_clone.field-0).laws
