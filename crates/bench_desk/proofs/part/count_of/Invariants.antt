use Rattle.std.proofs.Common.{◌≡◌, take}
use Rattle.std.specs.Prelude.{count_by}
use Rattle.bench_item.specs.Steps.{is_same_source}
use Rattle.bench_item.specs.declared.source.Source.TheVariants.{Desk}
use Rattle.bench_desk.proofs.part.count_of.Given as goal

-- those among the sources so far
abbrev pub invariant-loop-source : goal.invariant-loop-source
invariant-loop-source l = l.count ≡ count_by (is_same_source (Desk l.desk)) (take l.source-index l.sources)
