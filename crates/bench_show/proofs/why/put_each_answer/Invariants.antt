use Rattle.std.proofs.Common.{◌≡◌, ◌++◌, map, take}
use Rattle.std.specs.Prelude.{flat_map}
use Rattle.bench_show.specs.Why.{answer_words}
use Rattle.tab_step.specs.Moves.{name_at}
use Rattle.bench_show.proofs.why.put_each_answer.Given as goal

-- the answers so far were put
abbrev pub invariant-loop-guard : goal.invariant-loop-guard
invariant-loop-guard l =
    l.out.items
    ≡ l.initial.out.items ++ flat_map (answer_words l.laws l.scene) (map (name_at l.names) (take l.guard-index l.guards))
