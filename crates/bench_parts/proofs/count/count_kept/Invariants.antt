use Rattle.std.proofs.Common.{◌≡◌, ◌≤◌, length, take}
use Rattle.std.specs.Prelude.{flat_map}
use Rattle.bench_spec.specs.Merged.{entries_kept}
use Rattle.bench_parts.specs.Views.{kept_of}
use Rattle.bench_parts.proofs.count.count_kept.Given as goal

-- those among what was kept so far
abbrev pub invariant-loop-note : goal.invariant-loop-note
invariant-loop-note l = record {
  count : l.count ≡ length (flat_map (λ note. entries_kept (kept_of note)) (take l.note-index l.notes));
  few : l.count ≤ l.note-index;
}
