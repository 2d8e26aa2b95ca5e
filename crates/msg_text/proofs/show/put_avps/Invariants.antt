use Rattle.std.proofs.Common.{◌≡◌, ◌++◌, List, length}
use Rattle.std.specs.List.{flat_map}
use Rattle.dia_avp.specs.declared.avp.Avp.{Avp}
use Rattle.dia_avp.specs.Avps.{AvpsThen}
use Rattle.msg_text.specs.Lines.{avp_line}
use Rattle.msg_text.proofs.show.put_avps.Given as goal

-- the AVPs so far are printed
abbrev pub invariant-avps : goal.invariant-avps
invariant-avps l =
    (avps : List Avp) × AvpsThen l.octets avps l.rest × (l.out.items ≡ l.initial.out.items ++ flat_map avp_line avps)

abbrev pub decreases-avps : goal.decreases-avps
decreases-avps l = length l.rest
