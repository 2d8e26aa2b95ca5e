use Rattle.std.proofs.Common.{◌≡◌, true, map, take}
use Rattle.std.specs.List.{list_all}
use Rattle.bench_spec.specs.SameLaws.{is_same_book}
use Rattle.bench_open.proofs.books.are_same_books.Given as goal

abbrev pub invariant-loop-registry : goal.invariant-loop-registry
invariant-loop-registry g l = list_all (is_same_book l.first) (map (λ r. r.book) (take l.registry-index l.registries)) ≡ true
