use Rattle.std.proofs.Common.{arith, sym}
use Rattle.std.proofs.lemmas.List.{take_all, length-take-le}
use Rattle.tab_role.proofs.step.front.Goals as goal

pub slice_bounds-result-end : goal.slice_bounds-result-end
slice_bounds-result-end c = sym (length-take-le 64 c.args.arguments.now (omega (arith, c.if-arguments-le-PLACES.false)))

pub returns-then-arguments-le-PLACES-clause-front : goal.returns-then-arguments-le-PLACES-clause-front
returns-then-arguments-le-PLACES-clause-front c = sym (take_all 64 c.args.arguments.now c.if-arguments-le-PLACES.true)

pub returns-else-arguments-le-PLACES-clause-few : goal.returns-else-arguments-le-PLACES-clause-few
returns-else-arguments-le-PLACES-clause-few c = rw (length-take-le 64 c.args.arguments.now (omega (arith, c.if-arguments-le-PLACES.false))) (omega arith)
