use Rattle.std.proofs.Common.{◌≡◌, map, take}
use Rattle.bench_spec.specs.Merged.{stamp_of}
use Rattle.bench_parts.specs.Views.{kept_of}
use Rattle.bench_parts.proofs.stamps.stamps_kept.Given as goal

-- those of what was kept so far
abbrev pub invariant-loop-note : goal.invariant-loop-note
invariant-loop-note l = l.stamps.items ≡ map (λ note. stamp_of (kept_of note)) (take l.note-index l.notes)
