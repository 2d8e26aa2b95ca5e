use Rattle.std.proofs.Common.{◌≡◌, ◌≤◌, length, take}
use Rattle.dia_msg.specs.Sorting.{seen_all, Sorts}
use Rattle.dia_msg.proofs.sorting.sort.Given as goal

-- the AVPs in front are sorted
abbrev pub invariant-loop-place : goal.invariant-loop-place
invariant-loop-place l = Sorts l.format (seen_all l.avps) (seen_all (take l.place l.avps)) l.sorted × (length l.sorted.firsts ≡ 16) × (l.next ≤ length l.format)
