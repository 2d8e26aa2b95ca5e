use Rattle.std.proofs.Common.{◌∙◌, ◌+◌, ap, map}
use Rattle.std.specs.Bool.{Decides}
use Rattle.std.specs.Prelude.{All}
use Rattle.std.proofs.lemmas.Result.{IfOk-weaker}
use Rattle.bench_item.specs.Keys.{home}
use Rattle.bench_looks.specs.Before.{before}
use Rattle.bench_looks.specs.Parts.{IsRightIn, kept_at}
use Rattle.bench_looks.proofs.RightLemmas.{look-right}
use Rattle.bench_parts.specs.Views.{kept_in, kept_of, look_of}
use Rattle.bench_spec.specs.Merged.{IsRight, looks_kept}
use Rattle.bench_looks.proofs.right.is_right_note.Goals as goal

pub returns-in-Saw : goal.returns-in-Saw
returns-in-Saw c =
    let settings = c.args.core.now.settings in
    let kept = map kept_in c.args.parts.now in
    let look = look_of c.in-Saw.look in
    let of_shard = kept_in c.part_at-of_shard.result in
    let of_desk = kept_in c.part_at-of_desk.result in
    IfOk-weaker c.is_right.result
    (λ right. Decides right
    (IsRight settings c.args.desk (home settings.node.shards look.key.name) (before look.stamp of_shard)
    (before look.stamp of_desk) look))
    (λ right. Decides right (All (IsRightIn settings kept c.args.desk) (looks_kept (kept_of c.args.note.now))))
    (λ right. look-right settings kept c.args.desk (kept_of c.args.note.now) look right of_shard of_desk
    (ap kept_of c.in-Saw.is)
    (c.part_at-of_shard.ensures ∙ ap (kept_at kept) c.home.ensures.is
    ∙ ap (λ n. kept_at kept (home n look.key.name)) c.shards-shards.ensures.count)
    (c.part_at-of_desk.ensures ∙ ap (λ n. kept_at kept (n + 2 + c.args.desk)) c.shards-shards.ensures.count))
    c.is_right.ensures
