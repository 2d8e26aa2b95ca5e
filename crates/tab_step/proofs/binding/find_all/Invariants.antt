use Rattle.std.proofs.Common.{◌≡◌, [], Some, length, map, take}
use Rattle.base_list.specs.Named.{place_of}
use Rattle.tab_step.specs.Moves.{name_at}
use Rattle.tab_step.specs.Bind.{lacking}
use Rattle.tab_step.proofs.binding.find_all.Given as goal

abbrev pub invariant-loop-number : goal.invariant-loop-number
invariant-loop-number g l = record {
  found : map (λ number. place_of (name_at l.names number) l.entries) (take l.number-index l.numbers) ≡ map Some l.places;
  none : lacking l.entries (map (name_at l.names) (take l.number-index l.numbers)) ≡ [];
  each : length l.places ≡ l.number-index;
}
