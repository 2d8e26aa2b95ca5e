use Rattle.std.proofs.Common.{◌≡◌, ◌∙◌, ap, arith, map, subst, sym}
use Rattle.std.specs.Prelude.{slice_index}
use Rattle.bench_item.specs.Keys.{home}
use Rattle.bench_spec.specs.Desks.{seen_count}
use Rattle.bench_spec.specs.Settings.{Settings}
use Rattle.bench_desk.specs.Desks.{DeskView}
use Rattle.bench_parts.specs.Views.{kept_of}
use Rattle.bench_desk.proofs.desk.Desk.seen_there.Goals as goal

pub returns : goal.returns
returns c =
    let d = c.self.inside in
    let kept = map kept_of d.notes.items in
    let name = c.args.key.now.name in
    let is = c.home.ensures.is in
    let within = c.home.ensures.within in
    let few = c.self.invariant.few in
    subst
    (λ (v : DeskView). (settings : Settings) → settings.node.shards ≡ v.shards
    → slice_index d.seen c.home.result ≡ seen_count settings v.kept (home settings.node.shards name))
    c.self.view_is
    (λ settings same.
    c.self.invariant.counts.seen_are settings c.home.result same (omega (arith, within, few))
    ∙ ap (λ s. seen_count settings kept s) is
    ∙ ap (λ n. seen_count settings kept (home n name)) (sym same))
