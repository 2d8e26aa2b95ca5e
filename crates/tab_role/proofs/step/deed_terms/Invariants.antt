use Rattle.std.proofs.Common.{◌≡◌, map, take}
use Rattle.tab_law.specs.declared.law.Term.TheVariants.{Just}
use Rattle.tab_role.proofs.step.deed_terms.Given as goal

abbrev pub invariant-loop-atom : goal.invariant-loop-atom
invariant-loop-atom l = l.terms.items ≡ map Just (take l.atom-index l.arguments)
