use Rattle.std.proofs.Common.{◌≡◌, ◌++◌, length, map}
use Rattle.dia_avp.specs.Reading.{avps_in}
use Rattle.dia_dict.specs.Dictionary.{known}
use Rattle.dia_tree.specs.Canonical.{canonical}
use Rattle.dia_tree.proofs.canonical.list_of.Given as goal

-- what is listed, and then the canonical AVPs of the rest
abbrev pub invariant-loop-avp : goal.invariant-loop-avp
invariant-loop-avp l = map (canonical (known l.dictionary) 3) (avps_in l.octets).0 ≡ l.list ++ map (canonical (known l.dictionary) 3) (avps_in l.rest).0

abbrev pub decreases-loop-avp : goal.decreases-loop-avp
decreases-loop-avp l = length l.rest
