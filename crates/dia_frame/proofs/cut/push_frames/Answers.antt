use Rattle.std.proofs.Common.{◌≡◌, ◌+◌, ◌-◌, drop, Some, sym, ap, ◌∙◌, arith}
use Rattle.std.proofs.lemmas.List.{take_rest}
use Rattle.dia_frame.specs.Whole.{whole_len}
use Rattle.dia_frame.proofs.FrameLemmas.{begins, goes_on, holds_one}
use Rattle.dia_frame.proofs.cut.push_frames.Goals as goal

pub loop-len-init : goal.loop-len-init
loop-len-init c = begins c.args.limit c.args.octets.now c.args.waiting.now.items

pub loop-len-preserved : goal.loop-len-preserved
loop-len-preserved c =
    let found : whole_len c.args.limit (drop c.loop-len.end c.args.octets.now) ≡ Some c.in-Some.len = ap (whole_len c.args.limit) (sym (take_rest c.args.octets.now c.loop-len.end)) ∙ sym c.in-Some.ensures in
    let size : c.loop-len.end + c.in-Some.len - c.loop-len.end ≡ c.in-Some.len = omega arith in
    rw (c.in-Ok.ensures.ok, size) (goes_on c.args.limit c.args.octets.now c.args.waiting.now.items c.loop-len.waiting.items c.loop-len.end c.in-Some.len c.loop-len.invariant found)

pub returns-in-Err-clause-need : goal.returns-in-Err-clause-need
returns-in-Err-clause-need c =
    let found : whole_len c.args.limit (drop c.loop-len.end c.args.octets.now) ≡ Some c.in-Some.len = ap (whole_len c.args.limit) (sym (take_rest c.args.octets.now c.loop-len.end)) ∙ sym c.in-Some.ensures in
    holds_one c.args.limit c.args.octets.now c.args.waiting.now.items c.loop-len.waiting.items c.loop-len.end c.in-Some.len c.loop-len.invariant found
