use Rattle.std.proofs.Common.{◌≡◌, ◌-◌, length, take}
use Rattle.dia_dict.specs.Base.{base}
use Rattle.bench_setup.proofs.definitions.definitions_of.Given as goal

-- the definitions so far are there
abbrev pub invariant-places : goal.invariant-places
invariant-places l = l.dictionary ≡ take (l.place - length base) l.glossary.definitions
