use Rattle.std.proofs.Common.{◌≡◌, ◌++◌, take}
use Rattle.std.specs.List.{flat_map}
use Rattle.law_text.specs.Sentences.{act_line}
use Rattle.law_text.proofs.book.put_acts.Given as goal

-- so many are put, in order
abbrev pub invariant-loop-act : goal.invariant-loop-act
invariant-loop-act l = l.out.items ≡ l.initial.out.items ++ flat_map act_line (take l.act-index l.acts)
