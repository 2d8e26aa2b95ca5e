use Rattle.std.proofs.Common.{◌≡◌, ◌≤◌, ◌+◌, ◌++◌, drop, length, take}
use Rattle.std.specs.Prelude.{option_map}
use Rattle.cmd_live.specs.Lives.{AreLivings}
use Rattle.cmd_live.specs.Nodes.{nodes_of}
use Rattle.cmd_live.proofs.nodes.all_nodes.Given as goal

-- the nodes so far that are to live, and those that are left
abbrev pub invariant-setups : goal.invariant-setups
invariant-setups g l = record {
  nodes : l.nodes.nodes.items ++ nodes_of (option_map (λ host. host.now) l.words.node) l.left.rest.items
      ≡ nodes_of (option_map (λ host. host.now) l.words.node) l.initial.left.rest.items;
  left : drop l.place l.initial.left.rest.items ≡ l.left.rest.items;
  all : l.place + length l.left.rest.items ≡ length l.initial.left.rest.items;
  count : length l.nodes.nodes.items ≤ l.place;
  livings : AreLivings (option_map (λ host. host.now) l.words.node) l.seconds l.words.stats
      (take l.place l.initial.left.rest.items) l.nodes.livings.items;
  both : length l.nodes.livings.items ≡ length l.nodes.nodes.items;
}

abbrev pub decreases-setups : goal.decreases-setups
decreases-setups g l = l.left.rest.len
