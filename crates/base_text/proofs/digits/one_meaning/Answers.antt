use Rattle.base_text.proofs.Meaning.{Means-one}
use Rattle.base_text.proofs.digits.one_meaning.Goals as goal

pub returns : goal.returns
returns c = Means-one
