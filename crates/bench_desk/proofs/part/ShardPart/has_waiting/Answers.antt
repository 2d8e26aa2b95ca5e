use Rattle.std.proofs.Common.{◌≡◌, ◌∙◌, ◌-◌, List, ap, arith, drop, length, sym}
use Rattle.std.specs.Prelude.{count_by, filter, nat_lt}
use Rattle.std.proofs.lemmas.List.{take_rest}
use Rattle.std.specs.Arc.{arc_value}
use Rattle.bench_item.specs.Keys.{node_of}
use Rattle.bench_item.specs.Steps.{is_same_source}
use Rattle.bench_item.specs.declared.entry.Entry.{Entry}
use Rattle.bench_item.specs.declared.source.Source.{Source}
use Rattle.bench_item.specs.declared.source.Source.TheVariants.{Desk}
use Rattle.bench_queue.specs.Inbox.{items_in}
use Rattle.bench_spec.specs.Merged.{arrivals, handled_of}
use Rattle.bench_desk.specs.Parts.{PartView, waiting_from}
use Rattle.bench_desk.proofs.CountLemmas.{still_waiting}
use Rattle.bench_desk.proofs.PartLemmas.{entries-stamped_of}
use Rattle.bench_desk.proofs.part.ShardPart.has_waiting.Goals as goal

pub returns : goal.returns
returns c =
    let i = c.self.inside in
    let desk = c.args.desk in
    let p = is_same_source (Desk desk) in
    let items = i.sources.items in
    let node = node_of (arc_value i.roles).laws i.shard.peers in
    let worked = c.saturating_sub-worked.result in
    let len = c.len.ensures in
    let waits = c.waiting.ensures in
    let less = c.saturating_sub-worked.ensures in
    let all = i.sources.ok.0 in
    let worked_is : worked ≡ length items - length (items_in i.shard.inbox) = omega (arith, len, waits, less, all) in
    let entries = entries-stamped_of i.stamps.items i.log.entries c.self.invariant.1 in
    let counted : c.count_of.result ≡ count_by p (drop worked items) =
    c.count_of.ensures ∙ ap (count_by p) (take_rest c.deref.result.now worked)
    ∙ ap (λ (xs : List Source). count_by p (drop worked xs)) c.deref.ensures.value
    in
    let waiting : c.count_of.result ≡ waiting_from c.args.self.now desk =
    counted ∙ still_waiting (arc_value i.roles) i.shard items i.log.entries desk worked c.self.invariant.0 worked_is
    ∙ ap (λ (es : List Entry). length (filter (λ x. p x.0) (arrivals node es i.shard.number)) - length (handled_of node es i.shard.number desk)) (sym entries)
    ∙ ap (λ (v : PartView). waiting_from v desk) c.self.view_is in
    ap (nat_lt 0) waiting
