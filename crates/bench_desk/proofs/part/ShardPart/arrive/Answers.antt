use Rattle.std.proofs.Common.{◌≡◌, ◌∙◌, ℕ, List, [], ◌∷◌, ◌++◌, ap, arith, subst, sym}
use Rattle.std.proofs.lemmas.Grind.{common_steps}
use Rattle.std.specs.Arc.{arc_value}
use Rattle.bench_item.specs.Keys.{home}
use Rattle.bench_item.specs.declared.entry.Entry.{Entry}
use Rattle.bench_item.specs.declared.item.MachineItem.{MachineItem}
use Rattle.bench_item.specs.declared.source.Source.{Source}
use Rattle.bench_log.specs.Logged.{Logged}
use Rattle.bench_queue.specs.Inbox.{put_in}
use Rattle.bench_shard.specs.View.{ShardView, with_inbox}
use Rattle.bench_spec.specs.Merged.{Stamped}
use Rattle.bench_desk.specs.Parts.{PartView, drop_entry, with_arrival}
use Rattle.bench_parts.specs.Views.{stamped_of}
use Rattle.bench_desk.proofs.PartLemmas.{IsKept-drop, stamped_of-snoc}
use Rattle.bench_desk.proofs.WorkLemmas.{one-more}
use Rattle.bench_desk.proofs.part.ShardPart.arrive.Goals as goal

pub invariant_of-self-2 : goal.invariant_of-self-2
invariant_of-self-2 c =
    let i = c.self.inside in
    let e = drop_entry c.args.source c.args.item.now in
    let here : home i.shard.peers.shards c.args.item.now.key.name ≡ i.shard.number =
    subst (λ (v : PartView). home v.shard.peers.shards c.args.item.now.key.name ≡ v.shard.number) (sym c.self.view_is) c.requires in
    let log : c.put.new.self.entries ≡ i.log.entries ++ e ∷ [] =
    ap (λ (l : Logged). l.entries) c.put.ensures.added
    ∙ ap (λ (es : List Entry). es ++ c.in_ok-entry.entry ∷ []) c.in_ok-make_room.ensures.entries
    ∙ ap (λ (x : Entry). i.log.entries ++ x ∷ []) c.in_ok-entry.ensures in
    let stamped : c.push.new.self.items ≡ c.make_room.new.stamps.items ++ c.args.stamp ∷ [] = grind (arith, common_steps) in
    let drawn : c.push.new.self.items ≡ i.stamps.items ++ c.args.stamp ∷ [] =
    stamped ∙ ap (λ (ss : List ℕ). ss ++ c.args.stamp ∷ []) c.in_ok-make_room.ensures.drawn in
    let put_there : c.push-2.new.self.items ≡ c.make_room.new.sources.items ++ c.args.source ∷ [] = grind (arith, common_steps) in
    let came : c.push-2.new.self.items ≡ i.sources.items ++ c.args.source ∷ [] =
    put_there ∙ ap (λ (ss : List Source). ss ++ c.args.source ∷ []) c.in_ok-make_room.ensures.came in
    let put : c.put_kept.new.self ≡ with_inbox i.shard (put_in i.shard.inbox (c.args.item.now ∷ [])) =
    c.in_ok-put_kept.ensures.ok ∙ ap (λ (m : MachineItem). with_inbox i.shard (put_in i.shard.inbox (m ∷ []))) c.in_ok-own.ensures in
    rw (put, came, log, drawn) (
      IsKept-drop (arc_value i.roles) i.shard i.sources.items i.log.entries c.args.source c.args.item.now c.self.invariant.0 here,
      one-more i.stamps.items i.log.entries c.args.stamp e c.self.invariant.1,
    )

pub returns-clause-ok : goal.returns-clause-ok
returns-clause-ok c =
    let i = c.self.inside in
    let e = drop_entry c.args.source c.args.item.now in
    let log : c.put.new.self.entries ≡ i.log.entries ++ e ∷ [] =
    ap (λ (l : Logged). l.entries) c.put.ensures.added
    ∙ ap (λ (es : List Entry). es ++ c.in_ok-entry.entry ∷ []) c.in_ok-make_room.ensures.entries
    ∙ ap (λ (x : Entry). i.log.entries ++ x ∷ []) c.in_ok-entry.ensures in
    let pushed : c.push.new.self.items ≡ c.make_room.new.stamps.items ++ c.args.stamp ∷ [] = grind (arith, common_steps) in
    let drawn : c.push.new.self.items ≡ i.stamps.items ++ c.args.stamp ∷ [] =
    pushed ∙ ap (λ (ss : List ℕ). ss ++ c.args.stamp ∷ []) c.in_ok-make_room.ensures.drawn in
    let shard = with_inbox i.shard (put_in i.shard.inbox (c.args.item.now ∷ [])) in
    let view_of : ShardView → List Stamped → PartView = λ v es. record { tables = arc_value i.roles; shard = v; entries = es } in
    let put : c.put_kept.new.self ≡ shard =
    c.in_ok-put_kept.ensures.ok ∙ ap (λ (m : MachineItem). with_inbox i.shard (put_in i.shard.inbox (m ∷ []))) c.in_ok-own.ensures in
    ap (λ (v : ShardView). view_of v (stamped_of c.push.new.self.items c.put.new.self.entries)) put
    ∙ ap (λ (ss : List ℕ). view_of shard (stamped_of ss c.put.new.self.entries)) drawn
    ∙ ap (λ (es : List Entry). view_of shard (stamped_of (i.stamps.items ++ c.args.stamp ∷ []) es)) log
    ∙ ap (view_of shard) (stamped_of-snoc i.stamps.items i.log.entries c.args.stamp e c.self.invariant.1)
    ∙ ap (λ (v : PartView). with_arrival v c.args.source c.args.stamp c.args.item.now) c.self.view_is
