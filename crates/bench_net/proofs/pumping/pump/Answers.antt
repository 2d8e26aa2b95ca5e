use Rattle.std.proofs.Common.{not, [], refl, inr}
use Rattle.bench_net.specs.Pipes.{waiting}
use Rattle.bench_net.specs.declared.fault.PumpCode.TheVariants as codes
use Rattle.bench_net.proofs.PumpLemmas.{heard_so, only_lost, told_or_waiting}
use Rattle.bench_net.proofs.pumping.pump.Goals as goal

-- a device made more calls before than are counted on
pub returns-then-most_read-gt-MAX_CALLS-clause-heard : goal.returns-then-most_read-gt-MAX_CALLS-clause-heard
returns-then-most_read-gt-MAX_CALLS-clause-heard g c =
    let old = c.args.pipe.now in
    heard_so g.P.Port.takes g.P.Port.refuses g.P.Port.sent g.I.ByteSource.remaining g.I.ByteSource.blocked c.args.port.now c.lose.new.port old c.lose.new.pipe c.args.source.now c.args.source.now c.fault.result
    (record { code = codes.TurnsOver; read = 0; written = 0 }) [] (not old.losing) c.fault.ensures refl
    (only_lost g.P.Port.takes g.P.Port.refuses g.P.Port.sent g.I.ByteSource.remaining c.args.port.now c.lose.new.port (waiting old) (waiting c.lose.new.pipe) c.args.source.now (not old.losing) c.lose.ensures.handed)
    (told_or_waiting old.losing, inr refl)
