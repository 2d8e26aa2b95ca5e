-- Where memory is wanting for the text, that a read failed is told.
use Rattle.std.proofs.Common.{inr}
use Rattle.base_device.proofs.whole.tell_not_read.Goals as goal

pub returns-in-Err-clause-said : goal.returns-in-Err-clause-said
returns-in-Err-clause-said g c = inr c.tell-in-Err.ensures.told
