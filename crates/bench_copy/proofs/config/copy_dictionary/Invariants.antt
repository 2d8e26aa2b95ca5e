use Rattle.std.proofs.Common.{◌≡◌, ◌≤◌, length}
use Rattle.dia_dict.specs.Dictionary.{known}
use Rattle.bench_copy.specs.Copied.{front_to}
use Rattle.bench_copy.proofs.config.copy_dictionary.Given as goal

-- what was added before the place is there
abbrev pub invariant-loop-place : goal.invariant-loop-place
invariant-loop-place l = record {
  front : l.copy ≡ front_to l.dictionary l.place;
  within : l.place ≤ length (known l.dictionary);
}
