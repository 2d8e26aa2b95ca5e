use Rattle.std.proofs.Common.{◌≡◌, ◌++◌, take}
use Rattle.std.specs.List.{flat_map}
use Rattle.law_text.specs.Sentences.{guard_line}
use Rattle.law_text.proofs.book.put_guards.Given as goal

-- so many are put, in order
abbrev pub invariant-loop-guard : goal.invariant-loop-guard
invariant-loop-guard l = l.out.items ≡ l.initial.out.items ++ flat_map guard_line (take l.guard-index l.guards)
