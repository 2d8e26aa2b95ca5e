use Rattle.std.proofs.Common.{◌≡◌, ◌≤◌, ◌++◌, false, filter, drop, length}
use Rattle.dia_avp.specs.Look.{is_coded}
use Rattle.dia_msg.specs.Faults.{has_twice}
use Rattle.dia_msg.specs.Sorting.{seen_all}
use Rattle.dia_msg.specs.Walk.{groups_in}
use Rattle.dia_msg.proofs.services.are_faulty.Given as goal

-- the groups of all are those that were met, each once, and those to come
abbrev pub invariant-loop-avp : goal.invariant-loop-avp
invariant-loop-avp l = (groups_in (filter (is_coded 456) (seen_all l.avps)) ≡ l.groups ++ groups_in (filter (is_coded 456) (seen_all (drop l.avp-index l.avps)))) × (has_twice l.groups ≡ false) × (length l.groups ≤ l.most)
