use Rattle.std.proofs.Common.{◌≡◌, ◌++◌, List, []}
use Rattle.bench_nodes.specs.Acts.{settings_of}
use Rattle.bench_nodes.specs.Scripts.{DoesLines}
use Rattle.bench_nodes.specs.Settled.{net}
use Rattle.bench_nodes.specs.declared.script.NodeLine.{NodeLine}
use Rattle.bench_nodes.proofs.script.run_nodes.Given as goal

-- the lines that are not left were done
abbrev pub invariant-lines : goal.invariant-lines
invariant-lines g l =
    (settings_of l.nodes ≡ settings_of l.initial.nodes)
    × ((done : List NodeLine) × (done ++ l.left.rest.items ≡ l.fn.lines.items)
    × DoesLines l.cut (net l.initial.nodes [] l.initial.out.items) done (net l.nodes l.links.items l.out.items))

-- each turn takes a line
abbrev pub decreases-lines : goal.decreases-lines
decreases-lines g l = l.left.rest.len
