use Rattle.std.proofs.Common.{◌≤◌}
use Rattle.std.specs.List.{position_or_len}
use Rattle.std.specs.Str.{bytes_eq}
use Rattle.bench_shard.specs.Names.{key_octets}
use Rattle.bench_shard.proofs.seek.find_each.Given as goal

abbrev pub invariant-loop-place : goal.invariant-loop-place
invariant-loop-place l = l.place ≤ position_or_len (bytes_eq (key_octets l.key)) l.names
