use Rattle.std.proofs.Common.{refl}
use Rattle.cmd_bench.proofs.OpenLemmas.{books_there, ran_there, refused_there}
use Rattle.cmd_bench.proofs.nodes.run_opened.Goals as goal

-- the registries are those that the nodes were opened with
pub run_through-requires : goal.run_through-requires
run_through-requires g c = books_there _ c.args.setups.items c.in_ok-nodes.field-0 c.in-Nodes.nodes c.in-Nodes.nodes.items c.in_ok-nodes.ensures c.in-Nodes.is refl

-- the script is run on them
pub returns-in-Nodes : goal.returns-in-Nodes
returns-in-Nodes g c =
    ran_there _ c.args.cut c.args.setups.items c.args.script.now c.args.shown c.in_ok-nodes.field-0 c.in-Nodes.nodes c.run_through.result
    c.in_ok-nodes.ensures c.in-Nodes.is c.run_through.ensures

-- or one is not opened
pub returns-in-Refused : goal.returns-in-Refused
returns-in-Refused g c =
    refused_there _ c.args.cut c.args.setups.items c.args.script.now c.args.shown _ c.in_ok-nodes.field-0 c.in-Refused.text c.refusal.result c.in_ok-nodes.ensures c.in-Refused.is c.refusal.ensures
