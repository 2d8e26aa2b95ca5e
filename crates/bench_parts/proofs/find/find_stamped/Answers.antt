use Rattle.std.proofs.Common.{arith}
use Rattle.bench_parts.proofs.ViewLemmas.{at_stamp, past_stamps}
use Rattle.bench_parts.proofs.find.find_stamped.Goals as goal

pub returns-then-stamps-place : goal.returns-then-stamps-place
returns-then-stamps-place c =
    past_stamps c.args.stamps.now c.args.log.now.entries c.args.place c.if-stamps-place.true

pub returns : goal.returns
returns c =
    let within = c.if-stamps-place.false in
    at_stamp c.args.stamps.now c.args.log.now.entries c.args.place (omega (arith, within))
