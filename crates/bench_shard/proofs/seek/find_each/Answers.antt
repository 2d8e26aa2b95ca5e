use Rattle.std.proofs.Common.{arith, sym, ◌∙◌}
use Rattle.std.specs.Str.{bytes_eq}
use Rattle.bench_shard.specs.Names.{key_octets}
use Rattle.bench_shard.proofs.SeekLemmas.{seek-found, seek-next}
use Rattle.bench_shard.proofs.seek.find_each.Goals as goal

pub returns-then-is_at : goal.returns-then-is_at
returns-then-is_at c =
    sym (seek-found (bytes_eq (key_octets c.args.key.now)) c.args.names.now c.loop-place.place c.loop-place.invariant (sym c.is_at.ensures ∙ c.if-is_at.true))

pub loop-place-preserved : goal.loop-place-preserved
loop-place-preserved c =
    seek-next (bytes_eq (key_octets c.args.key.now)) c.args.names.now c.loop-place.place c.loop-place.invariant (omega (arith, c.loop-place-test.true, c.len-place-end.ensures.len)) (sym c.is_at.ensures ∙ c.if-is_at.false)
