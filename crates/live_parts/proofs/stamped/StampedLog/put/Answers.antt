use Rattle.std.proofs.Common.{◌≡◌, ◌∙◌, [], ◌∷◌, ◌++◌, List, ℕ, ◌-◌, ap, arith}
use Rattle.bench_desk.proofs.PartLemmas.{stamped_of-snoc}
use Rattle.std.proofs.lemmas.Grind.{common_steps}
use Rattle.bench_parts.specs.Views.{stamped_of}
use Rattle.bench_log.specs.Logged.{Logged}
use Rattle.bench_spec.specs.Merged.{Stamped}
use Rattle.live_parts.specs.Stamps.{StampedView, added}
use Rattle.live_parts.proofs.stamped.StampedLog.put.Goals as goal

pub returns : goal.returns
returns c =
    let i = c.self.inside in
    let pushed : c.push.new.self.items ≡ i.stamps.items ++ c.args.stamp ∷ [] = grind (arith, common_steps) in
    let view_of : List Stamped → ℕ → StampedView = λ es r. record { entries = es; room = r } in
    ap (λ (ss : List ℕ). view_of (stamped_of ss c.put.new.self.entries) c.put.new.self.room) pushed
    ∙ ap (λ (l : Logged). view_of (stamped_of (i.stamps.items ++ c.args.stamp ∷ []) l.entries) l.room) c.put.ensures.added
    ∙ ap (λ es. view_of es (i.log.room - 1)) (stamped_of-snoc i.stamps.items i.log.entries c.args.stamp c.args.entry c.self.invariant.0)
    ∙ ap (λ (v : StampedView). added v c.args.stamp c.args.entry) c.self.view_is
