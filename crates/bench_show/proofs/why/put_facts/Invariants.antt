use Rattle.std.proofs.Common.{◌≡◌, ◌++◌, drop}
use Rattle.step_text.specs.Lines.{behind, fact_words}
use Rattle.bench_show.proofs.why.put_facts.Given as goal

-- the facts that are left are those that are still to be put
abbrev pub invariant-loop-number : goal.invariant-loop-number
invariant-loop-number l =
    l.out.items ++ behind (fact_words l.number (drop l.number l.facts)) ≡ l.initial.out.items ++ behind (fact_words 0 l.facts)
