use Rattle.base_text.proofs.digits.pairs.Goals as goal

pub returns-in-None-clause-meaning : goal.returns-in-None-clause-meaning
returns-in-None-clause-meaning c = λ before m. rw c.in-None.is (c.run_of_pairs.ensures.meaning before (rw c.in-None.is at m))
