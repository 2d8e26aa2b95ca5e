use Rattle.std.proofs.Common.{◌∙◌, ◌<◌, ◌+◌, Some, ap, drop, length, rules, sym}
use Rattle.cmd_live.specs.Nodes.{has_host}
use Rattle.cmd_live.proofs.TwiceLemmas.{all_behind, twice_here, twice_next}
use Rattle.cmd_live.proofs.twice.first_twice.Goals as goal

-- it is that of this node
pub returns-then-has_host : goal.returns-then-has_host
returns-then-has_host c =
    let nodes = c.args.nodes.now in
    let place = c.nodes.place in
    let within : place < length nodes = search rules in
    let has = ap (λ host. has_host host (drop (place + 1) nodes)) (sym c.as_slice-host.ensures)
    ∙ ap (has_host c.as_slice-host.result.now) (sym (all_behind nodes (place + 1))) ∙ sym c.if-has_host.ensures
    in
    sym (c.nodes.invariant ∙ twice_here nodes place c.index-nodes-place.result within has ∙ ap Some (sym c.as_slice-host.ensures))

-- it is not
pub nodes-preserved : goal.nodes-preserved
nodes-preserved c =
    let nodes = c.args.nodes.now in
    let place = c.nodes.place in
    let within : place < length nodes = search rules in
    let none = ap (λ host. has_host host (drop (place + 1) nodes)) (sym c.as_slice-host.ensures)
    ∙ ap (has_host c.as_slice-host.result.now) (sym (all_behind nodes (place + 1))) ∙ sym c.if-has_host.ensures
    in
    c.nodes.invariant ∙ twice_next nodes place c.index-nodes-place.result within none
