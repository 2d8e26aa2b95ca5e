use Rattle.std.proofs.Common.{◌≡◌, length}
use Rattle.std.specs.List.{list_any}
use Rattle.dia_avp.specs.Reading.{avps_in}
use Rattle.line_message.specs.Heard.{is_application}
use Rattle.line_message.proofs.application.has_application.Given as goal

-- whether one of all AVPs is such a one, one of those of the rest says
abbrev pub invariant-loop-avp : goal.invariant-loop-avp
invariant-loop-avp l = list_any is_application (avps_in l.octets).0 ≡ list_any is_application (avps_in l.rest).0

abbrev pub decreases-loop-avp : goal.decreases-loop-avp
decreases-loop-avp l = length l.rest
