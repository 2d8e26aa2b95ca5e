use Rattle.std.proofs.Common.{length, vec_capacity}
use Rattle.dia_dict.specs.Dictionary.{known}
use Rattle.dia_tree.proofs.CanonicalLemmas.{Written}
use Rattle.dia_tree.proofs.canonical.+group_octets.Given as goal

abbrev pub decreases-group_octets : goal.decreases-group_octets
decreases-group_octets l = l.room

-- what was written, and then the encoding of the rest
abbrev pub invariant-loop-avp : goal.invariant-loop-avp
invariant-loop-avp l = Written (known l.dictionary) l.room l.octets l.out.items (vec_capacity l.out) l.rest

abbrev pub decreases-loop-avp : goal.decreases-loop-avp
decreases-loop-avp l = length l.rest
