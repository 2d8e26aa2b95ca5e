use Rattle.std.proofs.Common.{◌<◌, drop, vec_capacity}
use Rattle.dia_frame.specs.Whole.{room_of, CutsUpTo}
use Rattle.dia_frame.proofs.FrameLemmas.{room_lacks}
use Rattle.dia_frame.proofs.cut.cut_frames.Goals as goal

pub returns-in-Err-clause-need : goal.returns-in-Err-clause-need
returns-in-Err-clause-need c =
    let octets = c.args.octets.now.items in
    let cuts : CutsUpTo octets c.args.limit c.args.waiting.now.items c.push_frames.new.waiting.items c.in_ok-end.end = rw c.deref.ensures.value at c.in_ok-end.ensures.ok in
    let lacks : vec_capacity c.args.octets.now < room_of c.args.limit (drop c.in_ok-end.end octets) = c.in-Err.ensures.need in
    room_lacks (vec_capacity c.args.octets.now) c.args.limit octets (drop c.in_ok-end.end octets) cuts.1.came cuts.1.frames lacks
