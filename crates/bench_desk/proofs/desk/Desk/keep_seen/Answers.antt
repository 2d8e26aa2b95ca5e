use Rattle.std.proofs.Common.{◌≡◌, ◌∙◌, ◌<◌, [], ◌∷◌, ◌++◌, ap, arith, map, set, subst, sym}
use Rattle.std.proofs.lemmas.List.{map-append}
use Rattle.bench_item.specs.Keys.{home}
use Rattle.bench_item.specs.declared.limit.TheConstants.{MAX_SHARDS}
use Rattle.bench_spec.specs.Merged.{Look, Saw}
use Rattle.bench_desk.specs.Desks.{IsDesk}
use Rattle.bench_parts.specs.Views.{kept_of}
use Rattle.bench_parts.specs.declared.view.Note.TheVariants as notes
use Rattle.bench_desk.proofs.DeskLemmas.{IsDesk-saw}
use Rattle.bench_desk.proofs.desk.Desk.keep_seen.Goals as goal

pub invariant_of-self-2 : goal.invariant_of-self-2
invariant_of-self-2 c =
    let d = c.self.inside in
    let kept = map kept_of d.notes.items in
    let look : Look = record {
      stamp = c.args.stamp;
      key = c.args.key.now;
      stands = c.args.stands.now;
      waiting = c.args.waiting;
      handled = c.args.handled;
    } in
    let items : map kept_of c.push.new.self.items ≡ kept ++ Saw look ∷ [] =
    ap (map kept_of) c.in_ok-push.ensures.items ∙ map-append kept_of d.notes.items (notes.Saw c.in_ok-look.look ∷ [])
    ∙ ap (λ (l : Look). kept ++ Saw l ∷ []) c.in_ok-look.ensures in
    let is = c.home.ensures.is in
    let below = c.home.ensures.within in
    let few = c.self.invariant.few in
    let within : home d.shards c.args.key.now.name < MAX_SHARDS = subst (λ n. n < MAX_SHARDS) is (omega (arith, below, few)) in
    subst (λ ks. IsDesk d.number d.shards ks d.entries d.told (set d.seen c.home.result c.args.handled)) (sym items)
    (subst (λ at. IsDesk d.number d.shards (kept ++ Saw look ∷ []) d.entries d.told (set d.seen at c.args.handled)) (sym is)
    (IsDesk-saw d.number d.shards kept d.entries d.told d.seen look c.self.invariant within))
