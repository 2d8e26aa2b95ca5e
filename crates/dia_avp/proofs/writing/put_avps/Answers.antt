use Rattle.std.proofs.Common.{arith, sym, ap, ◌∙◌, List, ℕ, ◌++◌, take, append_assoc, subst, vec_capacity}
use Rattle.std.proofs.lemmas.List.Elements.{All-more}
use Rattle.dia_avp.specs.Encoding.{encoded, encoding}
use Rattle.dia_avp.specs.Writing.{HasNumbers}
use Rattle.dia_avp.proofs.Encoded.{encoding-take, room-next}
use Rattle.dia_avp.proofs.writing.put_avps.Goals as goal

pub put_avp-requires-clause-room : goal.put_avp-requires-clause-room
put_avp-requires-clause-room c =
    let room = room-next c.args.avps.now c.loop-avp.avp-index c.avp-item.result c.args.out.now.items c.loop-avp.out.items (vec_capacity c.loop-avp.out) c.loop-avp-test.true c.avp-item.is c.loop-avp.invariant.items (omega arith) in
    rw c.view.ensures (omega arith)

pub loop-avp-preserved : goal.loop-avp-preserved
loop-avp-preserved c = record {
  items =
      c.put_avp.ensures.items
      ∙ rw (c.view.ensures, c.loop-avp.invariant.items) (append_assoc c.args.out.now.items (encoding (take c.loop-avp.avp-index c.args.avps.now)) (encoded c.avp-item.result))
      ∙ ap (λ (x : List ℕ). c.args.out.now.items ++ x) (sym (encoding-take c.args.avps.now c.loop-avp.avp-index c.avp-item.result c.loop-avp-test.true c.avp-item.is));
  room = omega arith;
  numbers =
      All-more HasNumbers c.args.avps.now c.loop-avp.avp-index c.avp-item.result c.loop-avp-test.true c.loop-avp.invariant.numbers
      (subst HasNumbers (c.view.ensures ∙ c.avp-item.is) c.put_avp.ensures.numbers);
}
