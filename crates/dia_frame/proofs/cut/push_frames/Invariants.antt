use Rattle.std.proofs.Common.{◌-◌, length}
use Rattle.dia_frame.proofs.FrameLemmas.{SoFar}
use Rattle.dia_frame.proofs.cut.push_frames.Given as goal

abbrev pub invariant-loop-len : goal.invariant-loop-len
invariant-loop-len l = SoFar l.limit l.octets l.initial.waiting.items l.waiting.items l.end

abbrev pub decreases-loop-len : goal.decreases-loop-len
decreases-loop-len l = length l.octets - l.end
