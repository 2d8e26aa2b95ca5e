use Rattle.std.proofs.Common.{length}
use Rattle.dia_write.proofs.write.+put_fields.Given as goal

abbrev pub decreases-put_fields : goal.decreases-put_fields
decreases-put_fields l = length l.format.now
