use Rattle.std.proofs.Common.{◌≡◌, ◌∙◌, List, Some, ap, arith, length, sym}
use Rattle.bench_nodes.specs.Acts.{settings_of}
use Rattle.bench_nodes.specs.Crossings.{next_crossing}
use Rattle.bench_nodes.specs.Settled.{first, further, net}
use Rattle.bench_nodes.specs.declared.node.Link.{Link}
use Rattle.bench_nodes.proofs.ActLemmas.{books_kept}
use Rattle.bench_nodes.proofs.BoundLemmas.{crossed_room, settled_room}
use Rattle.bench_nodes.proofs.SettleLemmas.{crossed_keeps, settled_keeps}
use Rattle.bench_nodes.proofs.settled.settle_all.Goals as goal

-- all nodes have settled once
pub rounds-init : goal.rounds-init
rounds-init g c =
    let each = c.in_ok-settle_each.ensures c.args.links.now.items in record {
      same =
          settled_keeps (net c.args.nodes.now c.args.links.now.items c.args.out.now.items) (net c.settle_each.new.nodes c.args.links.now.items c.settle_each.new.out.items)
          (length c.args.nodes.now) each;
      rounds = first (net c.settle_each.new.nodes c.args.links.now.items c.settle_each.new.out.items) each;
    }

-- the registries are still those of the nodes
pub settle_each-requires-in-Some : goal.settle_each-requires-in-Some
settle_each-requires-in-Some g c =
    let mid = net c.rounds.nodes c.rounds.links.items c.rounds.out.items in
    let crossed = net c.cross.new.nodes c.cross.new.links.items c.cross.new.out.items in
    books_kept _ (settings_of c.args.nodes.now) (settings_of c.cross.new.nodes) (crossed_keeps mid crossed c.in-Some.crossing c.in_ok-cross.ensures ∙ c.rounds.invariant.same) c.requires

-- there is room for an entry less
pub rounds-smaller : goal.rounds-smaller
rounds-smaller g c =
    let mid = net c.rounds.nodes c.rounds.links.items c.rounds.out.items in
    let crossed = net c.cross.new.nodes c.cross.new.links.items c.cross.new.out.items in
    let new = net c.settle_each-in-Some.new.nodes c.cross.new.links.items c.settle_each-in-Some.new.out.items in
    let settled = settled_room crossed new (length c.cross.new.nodes) (c.in_ok-settle_each-2.ensures c.cross.new.links.items) in
    let took = crossed_room mid crossed c.in-Some.crossing c.in_ok-cross.ensures c.know_bounds.ensures in
    omega (arith, settled, took)

-- the next crossed, and all nodes settled again
pub rounds-preserved : goal.rounds-preserved
rounds-preserved g c =
    let mid = net c.rounds.nodes c.rounds.links.items c.rounds.out.items in
    let crossed = net c.cross.new.nodes c.cross.new.links.items c.cross.new.out.items in
    let new = net c.settle_each-in-Some.new.nodes c.cross.new.links.items c.settle_each-in-Some.new.out.items in
    let each = c.in_ok-settle_each-2.ensures c.cross.new.links.items in
    let next : next_crossing c.args.cut c.rounds.nodes c.rounds.links.items ≡ Some c.in-Some.crossing =
    ap (λ (links : List Link). next_crossing c.args.cut c.rounds.nodes links) (sym c.deref.ensures.value) ∙ sym c.in_ok-crossing.ensures ∙ c.in-Some.is in record {
      same =
          settled_keeps crossed new (length c.cross.new.nodes) each
          ∙ (crossed_keeps mid crossed c.in-Some.crossing c.in_ok-cross.ensures ∙ c.rounds.invariant.same);
      rounds = further mid crossed new c.in-Some.crossing c.rounds.invariant.rounds next c.in_ok-cross.ensures each;
    }
