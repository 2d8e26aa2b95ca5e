use Rattle.std.proofs.Common.{sym, ◌∙◌, arith, length}
use Rattle.std.proofs.lemmas.Bool.{eqb-true}
use Rattle.dia_avp.specs.View.{seen}
use Rattle.dia_dict.specs.Dictionary.{known}
use Rattle.dia_tree.specs.View.{is_event}
use Rattle.dia_tree.proofs.FaultLemmas.{SoFar-faulty, SoFar-end, Listed-start, Listed-more, Listed-end}
use Rattle.dia_tree.proofs.check.listed.Goals as goal

pub loop-left-init : goal.loop-left-init
loop-left-init g c = Listed-start (known c.args.dictionary.now) (is_event c.args.event.now) 5 c.args.octets.now c.args.avps.now c.requires (omega arith)

pub returns-then-is_some-clause-fault : goal.returns-then-is_some-clause-fault
returns-then-is_some-clause-fault g c =
    SoFar-faulty (known c.args.dictionary.now) (is_event c.args.event.now) 5 c.args.octets.now (length c.loop-left.avps) c.loop-left.left.now (seen c.in-Ok.avp) c.in-Ok.after.now c.avp_fault-found.result
    c.loop-left.invariant.faults c.in-Ok.ensures.parts (omega arith) c.avp_fault-found.ensures (sym c.is_some.ensures ∙ c.if-is_some.true)

pub loop-left-preserved : goal.loop-left-preserved
loop-left-preserved g c =
    rw c.push.ensures
    (Listed-more (known c.args.dictionary.now) (is_event c.args.event.now) 5 c.args.octets.now c.loop-left.avps c.loop-left.left.now c.in-Ok.avp c.in-Ok.after.now c.avp_fault-found.result
    c.loop-left.invariant c.in-Ok.ensures.parts (omega (arith, c.len.ensures.value)) c.avp_fault-found.ensures (sym c.is_some.ensures ∙ c.if-is_some.false))

pub returns-clause-fault : goal.returns-clause-fault
returns-clause-fault g c =
    sym (SoFar-end (known c.args.dictionary.now) (is_event c.args.event.now) 5 c.args.octets.now (length c.loop-left.avps) c.loop-left.left.now c.loop-left.invariant.faults (eqb-true _ _ (sym c.is_empty.ensures ∙ c.loop-left-test.false)))

pub returns-clause-avps : goal.returns-clause-avps
returns-clause-avps g c = λ none.
    Listed-end (known c.args.dictionary.now) (is_event c.args.event.now) 5 c.args.octets.now c.loop-left.avps c.loop-left.left.now c.loop-left.invariant (eqb-true _ _ (sym c.is_empty.ensures ∙ c.loop-left-test.false))
