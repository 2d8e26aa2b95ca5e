use Rattle.std.proofs.Common.{◌≡◌, ◌<◌, false, rules, sym, true}
use Rattle.bench_live.proofs.MissingLemmas.{is-missing, not-missing}
use Rattle.bench_live.proofs.live.missing.Goals as goal

pub returns-then-not-is_among : goal.returns-then-not-is_among
returns-then-not-is_among g c =
    let met : c.is_among.result ≡ false = search rules in
    let less : c.loop-number.number < c.args.count = search rules in
    sym (is-missing (λ d. d.desk) c.args.desks.now c.loop-number.number c.args.count c.is_among.result c.is_among.ensures met less
    c.loop-number.invariant)

pub loop-number-preserved : goal.loop-number-preserved
loop-number-preserved g c =
    let met : c.is_among.result ≡ true = search rules in
    not-missing (λ d. d.desk) c.args.desks.now c.loop-number.number c.is_among.result c.is_among.ensures met c.loop-number.invariant
