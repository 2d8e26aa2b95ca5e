use Rattle.std.proofs.Common.{◌≡◌, ◌+◌, ◌-◌, ◌^◌, ◌≤◌, drop, map, sum, min}
use Rattle.charge_facts.specs.Amounts.{total, groups_of, units_of, first_amount}
use Rattle.charge_facts.proofs.amount.total_by.Given as goal

-- the total so far and the units to come, as many as 64 bits hold, are the total of all
abbrev pub invariant-loop-avp : goal.invariant-loop-avp
invariant-loop-avp l = (total (groups_of l.code l.service) ≡ min (l.total + sum (map (λ g. units_of (first_amount g)) (groups_of l.code (drop l.avp-index l.service)))) (2 ^ 64 - 1)) × (l.total ≤ 2 ^ 64 - 1)
