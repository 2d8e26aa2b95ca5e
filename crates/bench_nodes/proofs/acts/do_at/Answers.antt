use Rattle.std.proofs.Common.{◌≡◌, Some, refl}
use Rattle.std.specs.Prelude.{get_or, slice_get}
use Rattle.std.proofs.lemmas.Option.{slice_get-get_or}
use Rattle.bench_nodes.proofs.ActLemmas.{own_books, own_within}
use Rattle.bench_nodes.proofs.acts.do_at.Goals as goal

-- the registries of the node
pub do_here-requires-clause-by : goal.do_here-requires-clause-by
do_here-requires-clause-by g c =
    let nodes = c.args.nodes.now in
    let node = get_or nodes c.args.at c.index-nodes-at.result in
    let there : slice_get nodes c.args.at ≡ Some node = slice_get-get_or nodes c.args.at c.index-nodes-at.result c.requires.at in
    own_books _ nodes c.args.at node c.requires.books there

pub do_here-requires-clause-enough : goal.do_here-requires-clause-enough
do_here-requires-clause-enough g c =
    let nodes = c.args.nodes.now in
    let node = get_or nodes c.args.at c.index-nodes-at.result in
    let there : slice_get nodes c.args.at ≡ Some node = slice_get-get_or nodes c.args.at c.index-nodes-at.result c.requires.at in
    own_within _ c.args.registries.now nodes c.args.at node c.requires.books there

-- it was done there, and all other nodes stay
pub returns : goal.returns
returns g c = record {
  before = get_or c.args.nodes.now c.args.at c.index-nodes-at.result;
  behind = c.do_here.new.node;
  was = slice_get-get_or c.args.nodes.now c.args.at c.index-nodes-at.result c.requires.at;
  acts = c.in_ok-do_here.ensures;
  is = refl;
}
