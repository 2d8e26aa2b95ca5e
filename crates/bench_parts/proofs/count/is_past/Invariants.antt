use Rattle.std.proofs.Common.{◌≡◌, ◌+◌, length, take}
use Rattle.std.specs.Prelude.{flat_map}
use Rattle.bench_item.specs.declared.limit.TheConstants.{MAX_ENTRIES}
use Rattle.bench_parts.specs.Views.{entries_in}
use Rattle.bench_parts.proofs.count.is_past.Given as goal

-- what is left, and the entries so far
abbrev pub invariant-loop-part : goal.invariant-loop-part
invariant-loop-part l = l.left + length (flat_map entries_in (take l.part-index l.parts)) ≡ MAX_ENTRIES
