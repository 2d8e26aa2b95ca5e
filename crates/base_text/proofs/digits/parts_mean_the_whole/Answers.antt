use Rattle.base_text.proofs.Meaning.{Means-append}
use Rattle.base_text.proofs.digits.parts_mean_the_whole.Goals as goal

pub returns : goal.returns
returns c = Means-append
