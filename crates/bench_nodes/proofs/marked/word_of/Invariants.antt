use Rattle.std.proofs.Common.{◌≡◌, take}
use Rattle.step_text.specs.Names.{shown}
use Rattle.bench_nodes.proofs.marked.word_of.Given as goal

-- the octets so far were put
abbrev pub invariant-loop-octet : goal.invariant-loop-octet
invariant-loop-octet l = l.out.items ≡ shown (take l.octet-index l.host)
