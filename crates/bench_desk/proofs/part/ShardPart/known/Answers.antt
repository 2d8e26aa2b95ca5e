use Rattle.std.proofs.Common.{◌≡◌, ◌∙◌, ℕ, List, ap, length, subst, sym}
use Rattle.std.specs.Arc.{arc_value}
use Rattle.bench_item.specs.Keys.{Node, node_of}
use Rattle.bench_item.specs.declared.entry.Entry.{Entry}
use Rattle.bench_queue.specs.Inbox.{InboxView}
use Rattle.bench_shard.specs.Stands.{HasMachines}
use Rattle.bench_spec.specs.Items.{arrived, worked}
use Rattle.bench_desk.specs.Parts.{PartView, entries_in, inbox_by, node_in}
use Rattle.bench_desk.specs.Runs.{AreRuns}
use Rattle.bench_desk.proofs.PartLemmas.{entries-stamped_of}
use Rattle.bench_desk.proofs.part.ShardPart.known.Goals as goal

abbrev in_log : List Entry → Node → ℕ → InboxView
in_log es node number = record { items = arrived node es number; worked = length (worked es number) }

pub returns-clause-inbox : goal.returns-clause-inbox
returns-clause-inbox c =
    let i = c.self.inside in
    let entries = entries-stamped_of i.stamps.items i.log.entries c.self.invariant.1 in
    subst (λ (v : PartView). v.shard.inbox ≡ inbox_by v) c.self.view_is
    (c.self.invariant.0.inbox ∙ ap (λ (es : List Entry). in_log es (node_of (arc_value i.roles).laws i.shard.peers) i.shard.number) (sym entries))

pub returns-clause-machines : goal.returns-clause-machines
returns-clause-machines c =
    let i = c.self.inside in
    let entries = entries-stamped_of i.stamps.items i.log.entries c.self.invariant.1 in
    subst (λ (v : PartView). HasMachines (node_in v) (entries_in v) v.shard) c.self.view_is
    (subst (λ (es : List Entry). HasMachines (node_of (arc_value i.roles).laws i.shard.peers) es i.shard) (sym entries) c.self.invariant.0.machines)

pub returns-clause-runs : goal.returns-clause-runs
returns-clause-runs c =
    let i = c.self.inside in
    let entries = entries-stamped_of i.stamps.items i.log.entries c.self.invariant.1 in
    subst (λ (v : PartView). AreRuns v.tables v.shard.peers (entries_in v)) c.self.view_is
    (subst (λ (es : List Entry). AreRuns (arc_value i.roles) i.shard.peers es) (sym entries) c.self.invariant.0.runs)
