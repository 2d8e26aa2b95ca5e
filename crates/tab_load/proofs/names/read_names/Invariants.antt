use Rattle.tab_load.specs.Names.{NamesOf}
use Rattle.tab_load.proofs.names.read_names.Given as goal

abbrev pub invariant-loop : goal.invariant-loop
invariant-loop g l = NamesOf l.bound l.entries l.octets l.begin l.counter l.names.end l.names.names.items l.names.places.items
