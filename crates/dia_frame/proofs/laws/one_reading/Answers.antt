use Rattle.dia_frame.proofs.LawLemmas.{one_reading, some_frames}
use Rattle.dia_frame.proofs.laws.one_reading.Goals as goal

pub returns-clause-some : goal.returns-clause-some
returns-clause-some c = some_frames

pub returns-clause-one : goal.returns-clause-one
returns-clause-one c = one_reading
