use Rattle.dia_frame.proofs.LawLemmas.{first_frame, one_more_frame}
use Rattle.dia_frame.proofs.laws.first_frame.Goals as goal

pub returns-clause-first : goal.returns-clause-first
returns-clause-first c = first_frame

pub returns-clause-one_more : goal.returns-clause-one_more
returns-clause-one_more c = one_more_frame
