use Rattle.std.proofs.Common.{◌≡◌, List, take, length, arith, ap, ◌∙◌}
use Rattle.std.proofs.lemmas.List.{take_all}
use Rattle.dia_avp.specs.declared.avp.Avp.{Avp}
use Rattle.dia_avp.specs.Encoding.{encoding}
use Rattle.dia_avp.proofs.Encoded.{length-encoding-next, length-encoding-take}
use Rattle.dia_avp.proofs.length.encoded_len_of.Goals as goal

pub loop-avp-preserved : goal.loop-avp-preserved
loop-avp-preserved c =
    let grows = length-encoding-take c.args.avps.now c.loop-avp.avp-index c.avp-item.result c.loop-avp-test.true c.avp-item.is in
    let len = rw c.view.ensures at c.encoded_len.ensures in
    record { is = omega arith; fits = omega arith }

-- where the sum up to here is too great, the whole is
pub returns-in_err-sum : goal.returns-in_err-sum
returns-in_err-sum c =
    let next = length-encoding-next c.args.avps.now c.loop-avp.avp-index c.avp-item.result c.loop-avp-test.true c.avp-item.is in
    let len = rw c.view.ensures at c.encoded_len.ensures in
    rw c.from_residual.ensures (λ lt. c.in_err-sum.ensures (omega arith))

pub returns : goal.returns
returns c =
    let all : take c.loop-avp.avp-index c.args.avps.now ≡ c.args.avps.now = take_all c.loop-avp.avp-index c.args.avps.now (omega arith) in
    let is = c.loop-avp.invariant.is ∙ ap (λ (l : List Avp). length (encoding l)) all in
    (omega arith, is)
