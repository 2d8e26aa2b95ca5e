use Rattle.std.proofs.Common.{◌∙◌, ap}
use Rattle.std.specs.Arc.{arc_value}
use Rattle.bench_desk.specs.Parts.{PartView}
use Rattle.bench_desk.specs.Working.{with_lift}
use Rattle.bench_desk.proofs.WorkLemmas.{tied-lifted, with_lift-lifted}
use Rattle.bench_desk.proofs.part.ShardPart.lift.Goals as goal

pub invariant_of-self-2 : goal.invariant_of-self-2
invariant_of-self-2 c =
    let i = c.self.inside in
    tied-lifted (arc_value i.roles) i.sources.items c.args.stamp i.shard c.write_lift.new.shard i.log.entries c.write_lift.new.log.entries
    i.stamps.items c.write_lift.new.stamps.items c.self.invariant c.in_ok-write_lift.ensures.ok

pub returns-clause-ok : goal.returns-clause-ok
returns-clause-ok c =
    with_lift-lifted (arc_value c.self.inside.roles) c.args.stamp _ _ _ _ _ _ c.in_ok-item.item c.self.invariant.1 c.in_ok-write_lift.ensures.ok c.in_ok-item.ensures
    ∙ ap (λ (v : PartView). with_lift v c.args.stamp c.in_ok-item.item) c.self.view_is
