use Rattle.std.proofs.Common.{◌≡◌, length}
use Rattle.dia_avp.specs.Reading.{avps_in}
use Rattle.charge_facts.specs.Amounts.{first_amount}
use Rattle.charge_facts.proofs.amount.amount_in.Given as goal

-- none that was looked at tells an amount
abbrev pub invariant-loop-avp : goal.invariant-loop-avp
invariant-loop-avp l = first_amount (avps_in l.octets).0 ≡ first_amount (avps_in l.rest).0

abbrev pub decreases-loop-avp : goal.decreases-loop-avp
decreases-loop-avp l = length l.rest
