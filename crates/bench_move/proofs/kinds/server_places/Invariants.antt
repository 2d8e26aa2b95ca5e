use Rattle.std.proofs.Common.{◌≡◌, map, take}
use Rattle.base_list.specs.Named.{place_of}
use Rattle.server_rules.specs.Kinds.{kinds}
use Rattle.bench_move.proofs.kinds.server_places.Given as goal

abbrev pub invariant-loop-entry : goal.invariant-loop-entry
invariant-loop-entry l = l.places.items ≡ map (λ entry. place_of entry.name kinds) (take l.entry-index l.entries)
