use Rattle.std.proofs.Common.{◌≡◌, ◌++◌, take}
use Rattle.std.specs.List.{flat_map}
use Rattle.law_text.specs.Sentences.{kind_line}
use Rattle.law_text.proofs.book.put_kinds.Given as goal

-- so many are put, in order
abbrev pub invariant-loop-kind : goal.invariant-loop-kind
invariant-loop-kind l = l.out.items ≡ l.initial.out.items ++ flat_map kind_line (take l.kind-index l.kinds)
