use Rattle.std.proofs.Common.{◌∙◌, ap, refl, subst, sym}
use Rattle.std.specs.Prelude.{map}
use Rattle.bench_shard.specs.Works.{taken_back}
use Rattle.bench_carry.specs.Parts.{parts_of}
use Rattle.bench_carry.specs.Placed.{IsPlaced}
use Rattle.bench_carry.specs.Undone.{unarrived, undone, undropped}
use Rattle.bench_carry.proofs.BackLemmas.{map-left, placed-arrival, unarrived-paused, undropped-paused, unlifted-paused}
use Rattle.bench_carry.proofs.back.undo_at.Goals as goal

pub unarrive-requires : goal.unarrive-requires
unarrive-requires c =
    placed-arrival c.args.wheel.now c.in-Dropped.source c.in-Dropped.arrival (subst (IsPlaced c.args.wheel.now) c.in-Dropped.is c.requires.placed)

pub returns-in-Dropped-clause-undone : goal.returns-in-Dropped-clause-undone
returns-in-Dropped-clause-undone c =
    let s = parts_of c.args.shards.now c.args.outboxes.now c.args.lines.now.lines c.args.carried.now.items c.args.pages.now c.args.wheel.now in
    c.unarrive.ensures.parts s c.undrop.new.outboxes ∙ ap (unarrived c.in-Dropped.arrival) (c.undrop.ensures s)
    ∙ ap (λ u. undone u s) (sym c.in-Dropped.is)

pub returns-in-Lifted-clause-paused : goal.returns-in-Lifted-clause-paused
returns-in-Lifted-clause-paused c =
    let s = parts_of c.args.shards.now c.args.outboxes.now c.args.lines.now.lines c.args.carried.now.items c.args.pages.now c.args.wheel.now in
    ap (λ t. map (λ v. v.paused) t.shards) (c.unlift.ensures s) ∙ unlifted-paused c.in-Lifted.source s

pub returns-in-Dropped-clause-paused : goal.returns-in-Dropped-clause-paused
returns-in-Dropped-clause-paused c =
    let s = parts_of c.args.shards.now c.args.outboxes.now c.args.lines.now.lines c.args.carried.now.items c.args.pages.now c.args.wheel.now in
    let both = c.unarrive.ensures.parts s c.undrop.new.outboxes ∙ ap (unarrived c.in-Dropped.arrival) (c.undrop.ensures s) in
    ap (λ t. map (λ v. v.paused) t.shards) both ∙ unarrived-paused c.in-Dropped.arrival (undropped c.in-Dropped.source s)
    ∙ undropped-paused c.in-Dropped.source s

pub returns-in-Worked-clause-paused : goal.returns-in-Worked-clause-paused
returns-in-Worked-clause-paused c =
    ap (λ vs. map (λ v. v.paused) vs) c.unwork.ensures
    ∙ map-left (λ v. v.paused) c.in-Worked.shard (taken_back c.in-Worked.record) c.args.shards.now (λ v. refl)
