use Rattle.std.proofs.Common.{[], ◌∙◌, sym}
use Rattle.std.proofs.lemmas.List.{nil_from_length}
use Rattle.cmd_bench.proofs.OpenLemmas.{open_none, opens_all, opens_more, refuses_first}
use Rattle.cmd_bench.proofs.nodes.open_nodes.Goals as goal

-- no node was opened
pub setups-init : goal.setups-init
setups-init g c = ([], c.into_iter-left.ensures.rest, open_none c.args.registries.now (λ r. r.book) _ c.new-nodes.ensures.items)

-- one more was
pub setups-preserved : goal.setups-preserved
setups-preserved g c =
    let (done, joined, are) = c.setups.invariant in
    opens_more _ c.args.setups.items done c.setups.left.rest.items c.next.new.self.rest.items c.setups.nodes.items c.push.new.self.items c.in-Some.setup c.in-Node.node c.in_ok-node.field-0 joined are
    c.in-Some.ensures.items c.in_ok-node.ensures c.in-Node.is c.in_ok-push-in-Node.ensures.items

-- one is refused
pub returns-in-Refused : goal.returns-in-Refused
returns-in-Refused g c =
    let (done, joined, are) = c.setups.invariant in
    refuses_first _ c.args.setups.items done c.setups.left.rest.items c.next.new.self.rest.items c.setups.nodes.items c.in-Some.setup c.in-Refused.text c.in_ok-node.field-0 joined are
    c.in-Some.ensures.items c.in_ok-node.ensures c.in-Refused.is

-- no setup is left
pub returns : goal.returns
returns g c =
    let (done, joined, are) = c.setups.invariant in
    opens_all _ c.args.setups.items done c.setups.left.rest.items c.setups.nodes.items joined are
    (nil_from_length c.setups.left.rest.items (sym c.setups.left.rest.ok.0 ∙ c.in_default.ensures.cases.0))
