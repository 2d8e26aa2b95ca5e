use Rattle.std.proofs.Common.{◌≡◌, ◌++◌, take, codes, decimal}
use Rattle.std.specs.List.{flat_map}
use Rattle.law_text.proofs.sentence.put_numbers.Given as goal

-- so many are put, in order
abbrev pub invariant-loop-other : goal.invariant-loop-other
invariant-loop-other l = l.out.items ≡ l.initial.out.items ++ flat_map (λ other. codes ", " ++ decimal other) (take l.other-index l.others)
