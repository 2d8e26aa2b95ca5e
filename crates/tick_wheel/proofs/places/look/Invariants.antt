use Rattle.std.proofs.Common.{◌≡◌, ◌++◌, ◌≤◌, min}
use Rattle.tick_wheel.specs.Places.{firings_of, next_due}
use Rattle.tick_wheel.proofs.places.look.Given as goal

-- what was found so far, with what is left to look at, is what there is
abbrev pub invariant-loop-owner : goal.invariant-loop-owner
invariant-loop-owner l = record {
  found : l.due.items ++ firings_of l.now l.owner-iterator ≡ firings_of l.now l.places.entries;
  bounded : l.earliest ≤ 18446744073709551615;
  least : min l.earliest (next_due l.now l.owner-iterator) ≡ next_due l.now l.places.entries;
}
