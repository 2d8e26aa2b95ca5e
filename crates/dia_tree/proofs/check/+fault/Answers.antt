use Rattle.std.proofs.Common.{refl, sym, ◌∙◌, arith}
use Rattle.std.proofs.lemmas.Bool.{eqb-true}
use Rattle.dia_avp.specs.View.{seen}
use Rattle.dia_dict.specs.Dictionary.{known}
use Rattle.dia_tree.specs.View.{is_event}
use Rattle.dia_tree.proofs.FaultLaws.{group_faults-none}
use Rattle.dia_tree.proofs.FaultLemmas.{SoFar-start, SoFar-more, SoFar-faulty, SoFar-end}
use Rattle.dia_tree.proofs.check.+fault.Goals as goal

pub fault_in-returns-then-room-eq0 : goal.fault_in-returns-then-room-eq0
fault_in-returns-then-room-eq0 t c = rw (c.if-room-eq0.true, group_faults-none) refl

pub fault_in-loop-rest-init : goal.fault_in-loop-rest-init
fault_in-loop-rest-init t c = SoFar-start (known c.args.dictionary.now) (is_event c.args.event.now) c.args.room c.args.octets.now (omega arith)

pub fault_in-returns-then-is_some : goal.fault_in-returns-then-is_some
fault_in-returns-then-is_some t c =
    SoFar-faulty (known c.args.dictionary.now) (is_event c.args.event.now) c.args.room c.args.octets.now c.loop-rest.count c.loop-rest.rest.now (seen c.in-Ok.avp) c.in-Ok.after.now c.avp_fault-first.result
    c.loop-rest.invariant c.in-Ok.ensures.parts (omega arith) c.avp_fault-first.ensures (sym c.is_some.ensures ∙ c.if-is_some.true)

pub fault_in-loop-rest-preserved : goal.fault_in-loop-rest-preserved
fault_in-loop-rest-preserved t c =
    SoFar-more (known c.args.dictionary.now) (is_event c.args.event.now) c.args.room c.args.octets.now c.loop-rest.count c.loop-rest.rest.now (seen c.in-Ok.avp) c.in-Ok.after.now c.avp_fault-first.result
    c.loop-rest.invariant c.in-Ok.ensures.parts (omega arith) c.avp_fault-first.ensures (sym c.is_some.ensures ∙ c.if-is_some.false)

pub fault_in-returns : goal.fault_in-returns
fault_in-returns t c =
    sym (SoFar-end (known c.args.dictionary.now) (is_event c.args.event.now) c.args.room c.args.octets.now c.loop-rest.count c.loop-rest.rest.now c.loop-rest.invariant (eqb-true _ _ (sym c.is_empty.ensures ∙ c.loop-rest-test.false)))
