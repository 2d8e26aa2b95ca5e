use Rattle.std.proofs.Common.{◌+◌, ◌<◌, List, length, rules, subst, sym, take}
use Rattle.cmd_live.specs.Lives.{AreDesksFrom}
use Rattle.cmd_live.proofs.LivesLemmas.{desk_next}
use Rattle.cmd_live.proofs.opening.desks_of.Goals as goal
use Rattle.live_desk.specs.declared.desk.Desk.{Desk}

-- one more, with the next number
pub desks-preserved : goal.desks-preserved
desks-preserved c =
    let configs = c.as_slice-configs.result.now in
    let within : c.desks.number < length configs = search rules in
    subst (λ (desks : List Desk). AreDesksFrom c.args.node.now.turns 0 (take (c.desks.number + 1) configs) desks) (sym c.in_ok-push.ensures.items)
    (desk_next c.args.node.now.turns c.desks.number configs c.desks.desks.items _ _ c.in_ok-desk_of.field-0 within c.index-configs-number.is c.desks.invariant c.in_ok-desk_of.ensures.desk)
