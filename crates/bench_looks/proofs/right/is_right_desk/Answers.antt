use Rattle.std.proofs.Common.{◌∙◌, ◌+◌, ap, map, refl, subst, sym}
use Rattle.std.specs.Bool.{Decides}
use Rattle.std.specs.Prelude.{All, flat_map}
use Rattle.std.proofs.lemmas.Result.{IfOk-weaker}
use Rattle.bench_looks.specs.Parts.{DeskIsRight, IsRightIn, kept_at}
use Rattle.bench_looks.proofs.RightLemmas.{entries-right}
use Rattle.bench_parts.specs.Views.{kept_in, kept_of, stamped_of}
use Rattle.bench_spec.specs.Merged.{looks_kept}
use Rattle.bench_looks.proofs.right.is_right_desk.Goals as goal

pub returns-in-Entries : goal.returns-in-Entries
returns-in-Entries c =
    let settings = c.args.core.now.settings in
    let kept = map kept_in c.args.parts.now in (
      λ yes.
          entries-right settings kept c.args.desk (stamped_of c.in-Entries.stamps.now c.in-Entries.log.now.entries)
          (ap kept_in (sym c.in-Entries.is) ∙ c.part_at.ensures
          ∙ ap (λ n. kept_at kept (n + 2 + c.args.desk)) c.shards.ensures.count),
      λ right. refl,
    )

pub returns-in-Notes : goal.returns-in-Notes
returns-in-Notes c =
    let settings = c.args.core.now.settings in
    let kept = map kept_in c.args.parts.now in
    IfOk-weaker c.are_right_notes.result
    (λ right. Decides right
    (All (IsRightIn settings kept c.args.desk) (flat_map looks_kept (map kept_of c.in-Notes.notes.now))))
    (λ right. Decides right (DeskIsRight settings kept c.args.desk))
    (λ right. subst
    (λ ks. Decides right (All (IsRightIn settings kept c.args.desk) (flat_map looks_kept ks)))
    (ap kept_in (sym c.in-Notes.is) ∙ c.part_at.ensures
    ∙ ap (λ n. kept_at kept (n + 2 + c.args.desk)) c.shards.ensures.count))
    c.are_right_notes.ensures
