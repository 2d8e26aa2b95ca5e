use Rattle.std.proofs.Common.{◌≡◌, map}
use Rattle.std.specs.List.{range_with_len}
use Rattle.tab_law.specs.declared.law.Term.TheVariants.{Just}
use Rattle.tab_role.specs.Entries.{argument}
use Rattle.tab_role.proofs.step.message_terms.Given as goal

abbrev pub invariant-loop-n : goal.invariant-loop-n
invariant-loop-n l = l.terms.items ≡ map Just (map (argument l.head l.services) (range_with_len 0 l.n))
