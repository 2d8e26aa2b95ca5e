use Rattle.std.proofs.Common.{sym, ap, subst, ◌∙◌, ◌<◌, ◌++◌, length, vec_capacity, length-append, arith}
use Rattle.dia_frame.specs.Framer.{FramerState, MayNeedMemory}
use Rattle.dia_frame.proofs.FramerLemmas.{broken_off, may_need-cut, may_need-extend}
use Rattle.dia_frame.proofs.framer.Framer.take.Goals as goal

pub returns-in-Some-clause-feeds : goal.returns-in-Some-clause-feeds
returns-in-Some-clause-feeds c = rw c.break_off.ensures.is (broken_off c.args.self.now c.break_off.new.self c.args.piece.now c.in-Some.fault
    (sym (ap (λ (s : FramerState). s.broken) c.self.view_is) ∙ c.if-self.false)
    (rw (sym c.self.view_is) (rw c.deref.ensures.value at (sym c.fault_across.ensures ∙ c.in-Some.is)))
    c.break_off.ensures.broken)

pub returns-in_err-extend_from_slice-clause-memory : goal.returns-in_err-extend_from_slice-clause-memory
returns-in_err-extend_from_slice-clause-memory c = λ h.
    let f = c.self.inside in
    let none = rw c.deref.ensures.value at (sym c.fault_across.ensures ∙ c.in_default.is) in
    let lacks : vec_capacity f.rest < length (f.rest.items ++ c.args.piece.now) = omega (arith, c.in_err-extend_from_slice.ensures.full, length-append f.rest.items c.args.piece.now) in
    subst (λ (s : FramerState). MayNeedMemory s c.args.piece.now) c.self.view_is
    (may_need-extend (record { limit = f.limit; waiting = f.waiting.items; rest = f.rest.items; broken = f.broken }) c.args.piece.now (vec_capacity f.rest) none c.self.invariant lacks)

pub returns-in-Err-clause-memory : goal.returns-in-Err-clause-memory
returns-in-Err-clause-memory c = λ h.
    let f = c.self.inside in
    subst (λ (s : FramerState). MayNeedMemory s c.args.piece.now) c.self.view_is
    (may_need-cut (record { limit = f.limit; waiting = f.waiting.items; rest = f.rest.items; broken = f.broken }) c.args.piece.now c.extend_from_slice.new.self.items (vec_capacity f.rest) (vec_capacity c.extend_from_slice.new.self)
    c.in_ok-extend_from_slice.ensures.items c.self.invariant c.in_ok-extend_from_slice.ensures.capacity c.in-Err.ensures.need)
