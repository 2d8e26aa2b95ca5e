use Rattle.std.proofs.Common.{rules, false, ◌==◌, ◌≡◌}
use Rattle.tab_text.proofs.Headers.{lacks-state, lacks-event, lacks-action, lacks-next, begins, elsewhere, longer, whole}
use Rattle.tab_text.proofs.header.header_of.Goals as goal

pub returns-in_err-state : goal.returns-in_err-state
returns-in_err-state c =
    rw c.from_residual.ensures (lacks-state _ _ c.new-words.ensures c.in_err-state.ensures)

pub returns-in_err-event : goal.returns-in_err-event
returns-in_err-event c =
    rw c.from_residual-in_err-event.ensures (lacks-event _ _ _ _ c.new-words.ensures c.in_ok-state.ensures c.in_err-event.ensures)

pub returns-in_err-action : goal.returns-in_err-action
returns-in_err-action c =
    rw c.from_residual-in_err-action.ensures (lacks-action _ _ _ _ _ _ c.new-words.ensures c.in_ok-state.ensures c.in_ok-event.ensures c.in_err-action.ensures)

pub returns-in_err-next : goal.returns-in_err-next
returns-in_err-next c =
    rw c.from_residual-in_err-next.ensures (lacks-next _ _ _ _ _ _ _ _ c.new-words.ensures c.in_ok-state.ensures c.in_ok-event.ensures c.in_ok-action.ensures c.in_err-next.ensures)

pub returns-then-state-ne2 : goal.returns-then-state-ne2
returns-then-state-ne2 c =
    let isnt : (c.in_ok-state.state == 2) ≡ false = search rules in
    elsewhere _ _ _ _ _ _ (begins _ _ _ _ _ _ _ _ _ _ c.new-words.ensures c.in_ok-state.ensures c.in_ok-event.ensures c.in_ok-action.ensures c.in_ok-next.ensures) isnt

pub returns-in-None : goal.returns-in-None
returns-in-None c =
    whole _ _ _ _ _ _ (begins _ _ _ _ _ _ _ _ _ _ c.new-words.ensures c.in_ok-state.ensures c.in_ok-event.ensures c.in_ok-action.ensures c.in_ok-next.ensures) c.if-state-ne2.false c.in-None.ensures

pub returns-in-Some : goal.returns-in-Some
returns-in-Some c =
    longer _ _ _ _ _ _ _ _ (begins _ _ _ _ _ _ _ _ _ _ c.new-words.ensures c.in_ok-state.ensures c.in_ok-event.ensures c.in_ok-action.ensures c.in_ok-next.ensures) c.in-Some.ensures
