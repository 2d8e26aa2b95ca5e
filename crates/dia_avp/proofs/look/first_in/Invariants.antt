use Rattle.std.proofs.Common.{◌≡◌, length}
use Rattle.std.specs.Prelude.{find}
use Rattle.dia_avp.specs.Look.{is_coded}
use Rattle.dia_avp.specs.Reading.{avps_in}
use Rattle.dia_avp.proofs.look.first_in.Given as goal

-- the first of all AVPs is the first of those of the rest
abbrev pub invariant-loop-avp : goal.invariant-loop-avp
invariant-loop-avp l = find (is_coded l.code) (avps_in l.octets).0 ≡ find (is_coded l.code) (avps_in l.rest).0

abbrev pub decreases-loop-avp : goal.decreases-loop-avp
decreases-loop-avp l = length l.rest
