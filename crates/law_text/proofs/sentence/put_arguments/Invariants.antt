use Rattle.std.proofs.Common.{◌≡◌, ◌++◌, take, codes}
use Rattle.std.specs.List.{flat_map}
use Rattle.law_text.specs.Atoms.{term_text}
use Rattle.law_text.specs.declared.words.Reads.TheVariants.{After}
use Rattle.law_text.proofs.sentence.put_arguments.Given as goal

-- so many are put, in order
abbrev pub invariant-loop-other : goal.invariant-loop-other
invariant-loop-other l = l.out.items ≡ l.initial.out.items ++ flat_map (λ other. codes ", " ++ term_text After other) (take l.other-index l.others)
