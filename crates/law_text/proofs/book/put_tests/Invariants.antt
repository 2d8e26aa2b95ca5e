use Rattle.std.proofs.Common.{◌≡◌, ◌++◌, take, codes}
use Rattle.std.specs.List.{flat_map}
use Rattle.law_text.specs.Sentences.{test_text}
use Rattle.law_text.proofs.book.put_tests.Given as goal

-- so many are put, in order
abbrev pub invariant-loop-other : goal.invariant-loop-other
invariant-loop-other l = l.out.items ≡ l.initial.out.items ++ flat_map (λ other. codes " and " ++ test_text other) (take l.other-index l.others)
