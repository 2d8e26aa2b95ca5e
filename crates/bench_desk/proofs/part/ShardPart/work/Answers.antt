use Rattle.std.proofs.Common.{◌≡◌, subst}
use Rattle.std.specs.Prelude.{OnErr, OnOk}
use Rattle.std.specs.Arc.{arc_value}
use Rattle.bench_desk.specs.Working.{IsWorked}
use Rattle.bench_desk.proofs.WorkLemmas.{tied-either, unworked-either, view_with, worked-either}
use Rattle.bench_desk.proofs.part.ShardPart.work.Goals as goal

pub invariant_of-self : goal.invariant_of-self
invariant_of-self g c =
    let i = c.self.inside in
    tied-either (arc_value i.roles) c.deref.result.now i.sources.items c.args.stamp i.shard c.do_task.new.shard c.args.page.now c.do_task.new.page
    i.log.entries c.do_task.new.log.entries i.stamps.items c.do_task.new.stamps.items c.do_task.result c.deref.ensures c.self.invariant
    c.do_task.ensures.ok c.do_task.ensures.err

pub returns-clause-ok : goal.returns-clause-ok
returns-clause-ok g c =
    let i = c.self.inside in
    subst (λ v. OnOk c.do_task.result (IsWorked v (view_with (arc_value i.roles) c.do_task.new.shard c.do_task.new.stamps.items c.do_task.new.log.entries) c.args.page.now c.do_task.new.page c.args.stamp)) c.self.view_is
    (worked-either (arc_value i.roles) c.deref.result.now c.args.stamp i.shard c.do_task.new.shard c.args.page.now c.do_task.new.page
    i.log.entries c.do_task.new.log.entries i.stamps.items c.do_task.new.stamps.items c.do_task.result c.deref.ensures c.self.invariant.1
    c.do_task.ensures.ok)

pub returns-clause-err : goal.returns-clause-err
returns-clause-err g c =
    let i = c.self.inside in
    subst (λ v. OnErr c.do_task.result (view_with (arc_value i.roles) c.do_task.new.shard c.do_task.new.stamps.items c.do_task.new.log.entries ≡ v)) c.self.view_is
    (unworked-either (arc_value i.roles) i.shard c.do_task.new.shard c.args.page.now c.do_task.new.page i.log.entries c.do_task.new.log.entries
    i.stamps.items c.do_task.new.stamps.items c.do_task.result c.do_task.ensures.err)
