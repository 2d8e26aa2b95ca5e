use Rattle.std.proofs.Common.{◌≡◌, drop}
use Rattle.charge_facts.specs.Amounts.{first_amount}
use Rattle.charge_facts.proofs.amount.amount_among.Given as goal

-- none that was looked at tells an amount
abbrev pub invariant-loop-avp : goal.invariant-loop-avp
invariant-loop-avp l = first_amount l.avps ≡ first_amount (drop l.avp-index l.avps)
