use Rattle.std.proofs.Common.{ap, arith, map, refl, subst}
use Rattle.std.specs.Prelude.{All, flat_map}
use Rattle.std.proofs.lemmas.Bool.{false≢true}
use Rattle.std.proofs.lemmas.List.{take_all}
use Rattle.bench_looks.specs.Parts.{IsRightIn}
use Rattle.bench_looks.proofs.RightLemmas.{notes-next, notes-wrong}
use Rattle.bench_parts.specs.Views.{kept_in, kept_of}
use Rattle.bench_spec.specs.Merged.{looks_kept}
use Rattle.bench_looks.proofs.right.are_right_notes.Goals as goal

pub returns-then-not-branch : goal.returns-then-not-branch
returns-then-not-branch c = (
  λ yes. absurd (false≢true yes),
  λ all.
      absurd
      (notes-wrong (IsRightIn c.args.core.now.settings (map kept_in c.args.parts.now) c.args.desk) c.args.notes.now
      c.loop-note.note-index c.note-item.result c.in_ok-is_right_note.field-0 c.loop-note-test.true c.note-item.is
      c.in_ok-is_right_note.ensures c.if-not-branch.true all),
)

pub loop-note-preserved : goal.loop-note-preserved
loop-note-preserved c =
    notes-next (IsRightIn c.args.core.now.settings (map kept_in c.args.parts.now) c.args.desk) c.args.notes.now
    c.loop-note.note-index c.note-item.result c.in_ok-is_right_note.field-0 c.loop-note-test.true c.note-item.is
    c.in_ok-is_right_note.ensures c.if-not-branch.false c.loop-note.invariant

pub returns : goal.returns
returns c =
    let over = c.loop-note-test.false in (
      λ yes.
          subst (All (IsRightIn c.args.core.now.settings (map kept_in c.args.parts.now) c.args.desk))
          (ap (λ ns. flat_map looks_kept (map kept_of ns))
          (take_all c.loop-note.note-index c.args.notes.now (omega (arith, over)))) c.loop-note.invariant,
      λ all. refl,
    )
