use Rattle.std.proofs.Common.{All, map, take}
use Rattle.std.specs.Prelude.{flat_map}
use Rattle.bench_looks.specs.Parts.{IsRightIn}
use Rattle.bench_parts.specs.Views.{kept_in, kept_of}
use Rattle.bench_spec.specs.Merged.{looks_kept}
use Rattle.bench_looks.proofs.right.are_right_notes.Given as goal

-- each look so far is right
abbrev pub invariant-loop-note : goal.invariant-loop-note
invariant-loop-note l =
    All (IsRightIn l.core.settings (map kept_in l.parts) l.desk)
    (flat_map looks_kept (map kept_of (take l.note-index l.notes)))
