-- The ends of a connection, by the way that octets go.
use Rattle.std.specs.Prelude.{ℕ}
use Rattle.bench_nodes.specs.declared.node.End.{End}
use Rattle.bench_nodes.specs.declared.node.Link.{Link}
use Rattle.bench_nodes.specs.declared.node.Way.{Way}
use Rattle.bench_nodes.specs.declared.node.Way.TheVariants.{There, Back}

-- where octets come from
abbrev pub from_end : Link → Way → End
from_end link There = link.caller
from_end link Back = link.callee

-- and where they come
abbrev pub to_end : Link → Way → End
to_end link There = link.callee
to_end link Back = link.caller

-- how many came
abbrev pub count_of : Link → Way → ℕ
count_of link There = link.there
count_of link Back = link.back

-- the connection when so many came
abbrev pub with_count : Link → Way → ℕ → Link
with_count link There count = record { caller = link.caller; callee = link.callee; there = count; back = link.back }
with_count link Back count = record { caller = link.caller; callee = link.callee; there = link.there; back = count }
