use Rattle.std.proofs.Common.{◌∙◌, ap, arith, sym}
use Rattle.std.specs.List.{list_all}
use Rattle.std.proofs.lemmas.List.{take_all}
use Rattle.std.proofs.lemmas.List.Folds.{list_all-map}
use Rattle.bench_parts.specs.Views.{kept_of}
use Rattle.bench_gather.specs.Checks.{is_did}
use Rattle.bench_gather.proofs.stand.are_did.Goals as goal

pub returns : goal.returns
returns c =
    let over = c.loop-note-test.false in
    c.loop-note.invariant
    ∙ ap (list_all (λ note. is_did (kept_of note)))
    (take_all c.loop-note.note-index c.args.notes.now (omega (arith, over)))
    ∙ sym (list_all-map is_did kept_of c.args.notes.now)
