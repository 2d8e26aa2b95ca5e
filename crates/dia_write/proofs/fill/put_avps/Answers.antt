use Rattle.std.proofs.Common.{◌≡◌, ◌++◌, length, take, ap, arith}
use Rattle.std.proofs.lemmas.List.{take_all}
use Rattle.dia_avp.specs.Encoding.{encoded, encoding}
use Rattle.dia_write.proofs.WriteLemmas.{length_of-encoded, length-pieces-next, length-pieces-more}
use Rattle.dia_write.proofs.FillLemmas.{filled-more, filled-same}
use Rattle.dia_write.proofs.fill.put_avps.Goals as goal

pub put_avp-to-requires-clause-short : goal.put_avp-to-requires-clause-short
put_avp-to-requires-clause-short c =
    rw c.view.ensures (omega (arith, length_of-encoded c.avp-item.result, length-pieces-next encoded c.args.avps.now c.loop-avp.avp-index c.avp-item.result c.loop-avp-test.true c.avp-item.is))

pub put_avp-to-requires-clause-fits : goal.put_avp-to-requires-clause-fits
put_avp-to-requires-clause-fits c =
    rw c.view.ensures (omega (arith, length-pieces-next encoded c.args.avps.now c.loop-avp.avp-index c.avp-item.result c.loop-avp-test.true c.avp-item.is))

pub loop-avp-preserved : goal.loop-avp-preserved
loop-avp-preserved c =
    let avps = c.args.avps.now in
    let i = c.loop-avp.avp-index in
    let a = c.avp-item.result in
    let end = rw c.view.ensures at c.put_avp-to.ensures.end in
    record {
      filled = λ front h.
          let put = c.put_avp-to.ensures.filled (front ++ encoding (take i avps)) (c.loop-avp.invariant.filled front h) in
          filled-more encoded avps i a c.put_avp-to.new.room front c.put_avp-to.result c.loop-avp-test.true c.avp-item.is (rw c.view.ensures at put);
      end = let more = length-pieces-more encoded avps i a c.loop-avp-test.true c.avp-item.is in omega arith;
      len = omega arith;
    }

pub returns-clause-filled : goal.returns-clause-filled
returns-clause-filled c = λ front h.
    let all : take c.loop-avp.avp-index c.args.avps.now ≡ c.args.avps.now = take_all c.loop-avp.avp-index c.args.avps.now (omega arith) in
    filled-same c.loop-avp.room _ _ c.loop-avp.to (ap (λ l. front ++ encoding l) all) (c.loop-avp.invariant.filled front h)

pub returns-clause-end : goal.returns-clause-end
returns-clause-end c =
    let all : take c.loop-avp.avp-index c.args.avps.now ≡ c.args.avps.now = take_all c.loop-avp.avp-index c.args.avps.now (omega arith) in
    omega (arith, ap (λ l. length (encoding l)) all, c.loop-avp.invariant.end)
