use Rattle.std.proofs.Common.{◌≡◌, ◌∙◌, ◌+◌, ◌<◌, ◌≤◌, ◌++◌, ap, arith, length, map, rules, set, subst, sym}
use Rattle.std.specs.Prelude.{slice_index}
use Rattle.std.proofs.lemmas.Bool.{ltb-false}
use Rattle.std.proofs.lemmas.Grind.{common_steps}
use Rattle.std.proofs.lemmas.List.{map-append}
use Rattle.bench_item.specs.Keys.{home}
use Rattle.bench_item.specs.declared.limit.TheConstants.{MAX_ENTRIES, MAX_SHARDS}
use Rattle.bench_spec.specs.Desks.{tell_kept}
use Rattle.bench_desk.specs.Desks.{DeskView, IsDesk, entry_count, is_desk_full}
use Rattle.bench_parts.specs.Views.{kept_of}
use Rattle.bench_desk.proofs.DeskLemmas.{IsDesk-told}
use Rattle.bench_desk.proofs.desk.Desk.told.Goals as goal

pub invariant_of-self-2 : goal.invariant_of-self-2
invariant_of-self-2 c =
    let d = c.self.inside in
    let kept = map kept_of d.notes.items in
    let items : map kept_of c.push-2.new.self.items ≡ kept ++ tell_kept d.number c.args.stamps c.args.key.now c.args.event.now =
    grind (arith, common_steps, map-append) in
    let long : length c.args.stamps ≡ 3 = search rules in
    let is = c.home.ensures.is in
    let below = c.home.ensures.within in
    let few = c.self.invariant.few in
    let within : home d.shards c.args.key.now.name < MAX_SHARDS = subst (λ n. n < MAX_SHARDS) is (omega (arith, below, few)) in
    let full = ltb-false MAX_ENTRIES (entry_count kept + 2) (ap (λ (v : DeskView). is_desk_full v.kept) c.self.view_is ∙ c.requires.own_room) in
    let count = c.self.invariant.entries_are in
    let room : d.entries + 2 ≤ MAX_ENTRIES = omega (arith, full, count) in
    subst (λ ks. IsDesk d.number d.shards ks (d.entries + 2) (set d.told c.home.result (slice_index d.told c.home.result + 1)) d.seen) (sym items)
    (subst
    (λ at. IsDesk d.number d.shards (kept ++ tell_kept d.number c.args.stamps c.args.key.now c.args.event.now) (d.entries + 2)
    (set d.told at (slice_index d.told at + 1)) d.seen) (sym is)
    (IsDesk-told d.number d.shards kept d.entries d.told d.seen c.args.stamps c.args.key.now c.args.event.now long c.self.invariant within room))
