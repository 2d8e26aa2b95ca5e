use Rattle.std.proofs.Common.{◌≡◌, ◌++◌, take}
use Rattle.std.specs.List.{flat_map}
use Rattle.dia_show.specs.Parts.{escaped}
use Rattle.dia_show.proofs.parts.put_all_escaped.Given as goal

-- the octets so far are put
abbrev pub invariant-loop-octet : goal.invariant-loop-octet
invariant-loop-octet l = l.out.items ≡ l.initial.out.items ++ flat_map escaped (take l.octet-index l.octets)
