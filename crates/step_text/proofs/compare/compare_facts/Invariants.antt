use Rattle.std.proofs.Common.{◌≡◌, drop}
use Rattle.step_text.specs.Lines.{behind, fact_words}
use Rattle.step_text.specs.Matching.{left_of, without}
use Rattle.step_text.proofs.compare.compare_facts.Given as goal

-- the facts that are left are still to be compared
abbrev pub invariant-loop-number : goal.invariant-loop-number
invariant-loop-number l =
    without (behind (fact_words l.number (drop l.number l.facts))) (left_of l.matcher) ≡ without (behind (fact_words 0 l.facts)) (left_of l.initial.matcher)
