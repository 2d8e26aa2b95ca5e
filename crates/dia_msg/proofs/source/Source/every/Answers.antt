use Rattle.std.proofs.Common.{sym, ◌∙◌}
use Rattle.std.proofs.lemmas.Bool.{true≢false}
use Rattle.dia_dict.specs.Dictionary.{known}
use Rattle.dia_msg.specs.Source.{entry_at}
use Rattle.dia_msg.proofs.SourceLemmas.{sound_at, values_next, values_other, where_ok}
use Rattle.dia_msg.proofs.source.Source.every.Goals as goal
use Rattle.dia_msg.proofs.source.Source.every.Goals.{then-is_coded+else-is_err, then-is_coded+then-is_err, else-is_coded}

pub value-value-requires : goal.value-value-requires
value-value-requires g c =
    let code = (entry_at c.args.self.now.format.now c.args.place).code in
    (code, c.requires.kind, sound_at c.args.self.now.dictionary.now c.requires.ready.event code c.args.self.now.avps.now c.loop-avp.avp-index _ c.loop-avp-test.true c.requires.ready.good (sym c.is_coded.ensures ∙ c.if-is_coded.true))

pub loop-avp-preserved : goal.loop-avp-preserved
loop-avp-preserved g c = λ enough.
    let Is = g.T.FromAvp.is_value (known c.args.self.now.dictionary.now) in
    let code = (entry_at c.args.self.now.format.now c.args.place).code in
    let avps = c.args.self.now.avps.now in
    let i = c.loop-avp.avp-index in
    elim c.if-is_coded.branch [
      | then-is_coded+else-is_err w ↦
          let value = w.value-value.ensures (sym w.no_memory-is ∙ enough) in
          let before = c.loop-avp.invariant value.0 in
          let pushed = where_ok w.push.result (sym w.is_err.ensures.value ∙ w.if-is_err.false) w.push.ensures.ok in
          (before.0, rw (w.values-is, pushed) (values_next Is code avps i _ c.loop-avp.values w.value-value.result c.loop-avp-test.true (sym c.is_coded.ensures ∙ w.if-is_coded.true) before.1 value.1))
      | then-is_coded+then-is_err w ↦ absurd (true≢false (sym w.no_memory-is ∙ enough))
      | else-is_coded w ↦
          let before = c.loop-avp.invariant (sym w.no_memory-is ∙ enough) in
          (before.0, rw w.values-is (values_other Is code avps i _ c.loop-avp.values c.loop-avp-test.true (sym c.is_coded.ensures ∙ w.if-is_coded.false) before.1))
    ]
