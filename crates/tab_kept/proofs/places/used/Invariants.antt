use Rattle.std.proofs.Common.{◌≡◌, ◌≤◌, ◌-◌, drop, replicate}
use Rattle.tab_law.specs.declared.limits.TheConstants.{PLACES}
use Rattle.tab_kept.proofs.places.used.Given as goal

-- from this place on there are zeros
abbrev pub invariant-zeros : goal.invariant-zeros
invariant-zeros l = record {
  within : l.count ≤ PLACES;
  zeros : drop l.count l.places ≡ replicate (PLACES - l.count) 0;
}

-- the same, while eight are looked at at once
abbrev pub invariant-eights : goal.invariant-eights
invariant-eights l = record {
  within : l.count ≤ PLACES;
  zeros : drop l.count l.places ≡ replicate (PLACES - l.count) 0;
}

abbrev pub decreases-eights : goal.decreases-eights
decreases-eights l = l.count

abbrev pub decreases-zeros : goal.decreases-zeros
decreases-zeros l = l.count
