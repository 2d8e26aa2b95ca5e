use Rattle.std.specs.Prelude.{map}
use Rattle.bench_debug.specs.Seen.{seen}
use Rattle.bench_script.specs.Ran.{IsRunBy}
use Rattle.test_debug.proofs.sessions.put_answers.Given as goal

-- the registries are still those of the bench
abbrev pub invariant-loop-line : goal.invariant-loop-line
invariant-loop-line g l = IsRunBy (seen l.debugger).world (map (λ r. r.book) l.registries)
