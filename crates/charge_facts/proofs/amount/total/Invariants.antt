use Rattle.std.proofs.Common.{◌≡◌, ◌+◌, ◌-◌, ◌^◌, ◌≤◌, drop, map, sum, min}
use Rattle.charge_facts.specs.Amounts.{total, units_of, first_amount}
use Rattle.charge_facts.proofs.amount.total.Given as goal

-- the total so far and the units to come, as many as 64 bits hold, are the total of all
abbrev pub invariant-loop-group : goal.invariant-loop-group
invariant-loop-group l = (total (map (λ g. g.value) l.groups) ≡ min (l.total + sum (map (λ g. units_of (first_amount g)) (map (λ g. g.value) (drop l.group-index l.groups)))) (2 ^ 64 - 1)) × (l.total ≤ 2 ^ 64 - 1)
