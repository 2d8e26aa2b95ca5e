use Rattle.std.proofs.Common.{false, [], refl, inr}
use Rattle.std.proofs.KnownBytes.{Consumes-nil}
use Rattle.bench_net.specs.Pipes.{waiting}
use Rattle.bench_net.proofs.HearLemmas.{EndsBy-settled, Hears-after, Hears-none}
use Rattle.bench_net.proofs.hear.hear.Goals as goal

-- the port holds up what the pipe kept
pub returns-in-Err-clause-heard : goal.returns-in-Err-clause-heard
returns-in-Err-clause-heard g c = (
  [],
  false,
  refl,
  Hears-none g.P.Port.takes g.P.Port.refuses g.P.Port.sent g.I.ByteSource.remaining c.args.port.now c.settle.new.port (waiting c.args.pipe.now) (waiting c.settle.new.pipe) c.args.source.now c.args.source.now (Consumes-nil _) c.settle.ensures.handed,
  (c.in-Err.ensures.held, refl, (λ e. cc), λ e. inr (c.settle.ensures.losing e)),
)

pub returns-clause-heard : goal.returns-clause-heard
returns-clause-heard g c =
    let heard = c.hear_all.ensures.heard in (
      heard.0,
      heard.1,
      heard.2,
      Hears-after g.P.Port.takes g.P.Port.refuses g.P.Port.sent g.I.ByteSource.remaining c.args.port.now c.settle.new.port c.hear_all.new.port (waiting c.args.pipe.now) (waiting c.settle.new.pipe) (waiting c.hear_all.new.pipe) c.args.source.now c.hear_all.new.source heard.0 heard.1 c.settle.ensures.handed heard.3,
      EndsBy-settled g.P.Port.refuses g.I.ByteSource.remaining g.I.ByteSource.reads g.I.ByteSource.failures g.I.ByteSource.blocked c.hear_all.new.port c.args.pipe.now c.settle.new.pipe c.hear_all.new.pipe c.args.source.now c.hear_all.new.source heard.1 c.hear_all.result.end c.settle.ensures.losing heard.4,
    )
