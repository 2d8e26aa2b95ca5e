use Rattle.std.proofs.Common.{◌≡◌, ◌∙◌, ◌-◌, ℕ, List, ap, arith, drop, length, sym, take}
use Rattle.std.specs.Prelude.{count_by}
use Rattle.std.proofs.lemmas.List.{take_rest}
use Rattle.std.specs.Arc.{arc_value}
use Rattle.bench_item.specs.Keys.{node_of}
use Rattle.bench_item.specs.Steps.{is_same_source}
use Rattle.bench_item.specs.declared.entry.Entry.{Entry}
use Rattle.bench_item.specs.declared.source.Source.{Source}
use Rattle.bench_item.specs.declared.source.Source.TheVariants.{Desk}
use Rattle.bench_queue.specs.Inbox.{items_in}
use Rattle.bench_spec.specs.Merged.{arrivals, handled_of}
use Rattle.std.specs.Prelude.{filter}
use Rattle.bench_desk.specs.Parts.{PartView, came_from, handled_from, waiting_from}
use Rattle.bench_desk.proofs.CountLemmas.{both_counts, counted_by}
use Rattle.bench_desk.proofs.PartLemmas.{entries-stamped_of}
use Rattle.bench_desk.proofs.part.ShardPart.counts.Goals as goal

pub returns-clause-counts : goal.returns-clause-counts
returns-clause-counts c =
    let i = c.self.inside in
    let desk = c.args.desk in
    let p = is_same_source (Desk desk) in
    let items = i.sources.items in
    let node = node_of (arc_value i.roles).laws i.shard.peers in
    let worked = c.saturating_sub-worked.result in
    let len = c.len.ensures in
    let waits = c.waiting.ensures in
    let less = c.saturating_sub-worked.ensures in
    let all = i.sources.ok.0 in
    let worked_is : worked ≡ length items - length (items_in i.shard.inbox) = omega (arith, len, waits, less, all) in
    let k = counted_by (arc_value i.roles) i.shard items i.log.entries desk c.self.invariant.0 in
    let entries = entries-stamped_of i.stamps.items i.log.entries c.self.invariant.1 in
    let handled : c.count_of-handled.result ≡ count_by p (take worked items) =
    c.count_of-handled.ensures ∙ ap (λ (xs : List Source). count_by p (take worked xs)) c.deref.ensures.value in
    let waiting : c.count_of-waiting.result ≡ count_by p (drop worked items) =
    c.count_of-waiting.ensures ∙ ap (count_by p) (take_rest c.deref-2.result.now worked)
    ∙ ap (λ (xs : List Source). count_by p (drop worked xs)) c.deref-2.ensures.value
    in
    let handled_is : c.count_of-handled.result ≡ handled_from c.args.self.now desk =
    handled ∙ ap (λ n. count_by p (take n items)) worked_is ∙ sym k.first
    ∙ ap (λ (es : List Entry). length (handled_of node es i.shard.number desk)) (sym entries)
    ∙ ap (λ (v : PartView). handled_from v desk) c.self.view_is in
    let came : count_by p items ≡ came_from c.args.self.now desk =
    sym k.all ∙ ap (λ (es : List Entry). length (filter (λ x. p x.0) (arrivals node es i.shard.number))) (sym entries)
    ∙ ap (λ (v : PartView). came_from v desk) c.self.view_is in
    let both = both_counts p items worked in
    let waiting_is : c.count_of-waiting.result ≡ waiting_from c.args.self.now desk = omega (arith, handled, waiting, handled_is, came, both) in
    ap (λ (n : ℕ). (n, c.count_of-handled.result)) waiting_is ∙ ap (λ (n : ℕ). (waiting_from c.args.self.now desk, n)) handled_is
