use Rattle.std.proofs.Common.{◌≡◌, length, take, ap, arith}
use Rattle.std.specs.List.{flat_map}
use Rattle.std.proofs.lemmas.List.{take_all}
use Rattle.dia_write.proofs.WriteLemmas.{coded, encoding-values, length-pieces-next, length-pieces-more}
use Rattle.dia_write.proofs.write.with_each.Goals as goal

-- where the sum up to here is too great, the whole is
pub returns-in_err-len : goal.returns-in_err-len
returns-in_err-len g c =
    let f = coded g.T.Content.data_of c.args.code in
    let next = length-pieces-next f c.args.list.now c.loop-avp.avp-index c.avp-item.result c.loop-avp-test.true c.avp-item.is in
    let whole = ap length (encoding-values g.T.Content.data_of c.args.code c.args.list.now) in
    rw c.from_residual.ensures (λ lt. c.in_err-len.ensures (omega arith))

pub loop-avp-preserved : goal.loop-avp-preserved
loop-avp-preserved g c =
    let f = coded g.T.Content.data_of c.args.code in
    let more = length-pieces-more f c.args.list.now c.loop-avp.avp-index c.avp-item.result c.loop-avp-test.true c.avp-item.is in
    record { is = omega arith; fits = omega arith }

pub returns : goal.returns
returns g c =
    let f = coded g.T.Content.data_of c.args.code in
    let all : take c.loop-avp.avp-index c.args.list.now ≡ c.args.list.now = take_all c.loop-avp.avp-index c.args.list.now (omega arith) in
    let whole = ap length (encoding-values g.T.Content.data_of c.args.code c.args.list.now) in
    let is = ap (λ l. length (flat_map f l)) all in
    (omega arith, omega arith)
