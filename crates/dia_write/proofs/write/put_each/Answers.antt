use Rattle.std.proofs.Common.{ℕ, List, ◌++◌, length, take, sym, ap, ◌∙◌, arith}
use Rattle.std.specs.List.{flat_map}
use Rattle.std.proofs.lemmas.List.{take_all}
use Rattle.dia_command.specs.Field.{avp_of}
use Rattle.dia_write.proofs.WriteLemmas.{coded, encoding-values, length_of-encoded, length-pieces-next, length-pieces-more}
use Rattle.dia_write.proofs.FillLemmas.{filled-same, filled-more}
use Rattle.dia_write.proofs.write.put_each.Goals as goal

pub put-to-requires-clause-short : goal.put-to-requires-clause-short
put-to-requires-clause-short g c =
    let f = coded g.T.Content.data_of c.args.code in
    let whole = ap length (encoding-values g.T.Content.data_of c.args.code c.args.list.now) in
    omega (arith, whole, length_of-encoded (avp_of g.T.Content.data_of c.args.code c.avp-item.result), length-pieces-next f c.args.list.now c.loop-avp.avp-index c.avp-item.result c.loop-avp-test.true c.avp-item.is)

pub put-to-requires-clause-fits : goal.put-to-requires-clause-fits
put-to-requires-clause-fits g c =
    let f = coded g.T.Content.data_of c.args.code in
    let whole = ap length (encoding-values g.T.Content.data_of c.args.code c.args.list.now) in
    omega (arith, whole, length-pieces-next f c.args.list.now c.loop-avp.avp-index c.avp-item.result c.loop-avp-test.true c.avp-item.is)

pub loop-avp-preserved : goal.loop-avp-preserved
loop-avp-preserved g c =
    let f = coded g.T.Content.data_of c.args.code in
    record {
      filled = λ front h. filled-more f c.args.list.now c.loop-avp.avp-index c.avp-item.result c.put-to.new.room front c.put-to.result c.loop-avp-test.true c.avp-item.is (c.put-to.ensures.filled (front ++ flat_map f (take c.loop-avp.avp-index c.args.list.now)) (c.loop-avp.invariant.filled front h));
      end = let more = length-pieces-more f c.args.list.now c.loop-avp.avp-index c.avp-item.result c.loop-avp-test.true c.avp-item.is in omega arith;
      len = omega arith;
    }

pub returns-clause-filled : goal.returns-clause-filled
returns-clause-filled g c = λ front h.
    let f = coded g.T.Content.data_of c.args.code in
    let all = take_all c.loop-avp.avp-index c.args.list.now (omega arith) in
    let is = ap (flat_map f) all ∙ sym (encoding-values g.T.Content.data_of c.args.code c.args.list.now) in
    filled-same c.loop-avp.room _ _ c.loop-avp.to (ap (λ (l : List ℕ). front ++ l) is) (c.loop-avp.invariant.filled front h)

pub returns-clause-end : goal.returns-clause-end
returns-clause-end g c =
    let f = coded g.T.Content.data_of c.args.code in
    let all = take_all c.loop-avp.avp-index c.args.list.now (omega arith) in
    let is = ap (flat_map f) all ∙ sym (encoding-values g.T.Content.data_of c.args.code c.args.list.now) in
    omega (arith, ap length is, c.loop-avp.invariant.end)
