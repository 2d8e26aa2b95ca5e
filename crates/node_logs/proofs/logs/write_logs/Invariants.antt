use Rattle.std.proofs.Common.{◌≡◌, ◌≤◌, drop, length, map, reverse}
use Rattle.node_logs.specs.Files.{with_files}
use Rattle.node_logs.specs.Logs.{log_of}
use Rattle.node_logs.proofs.logs.write_logs.Given as goal

-- the logs of the nodes that are not left were written, and none failed
abbrev pub invariant-nodes : goal.invariant-nodes
invariant-nodes g l = record {
  within : l.left ≤ length l.nodes;
  written : g.F.FileSink.files l.files ≡ with_files (g.F.FileSink.files l.initial.files) (map log_of (reverse (drop l.left l.nodes)));
  kept : g.F.FileSink.failed l.files ≡ g.F.FileSink.failed l.initial.files;
}

-- each turn takes a node
abbrev pub decreases-nodes : goal.decreases-nodes
decreases-nodes g l = l.left
