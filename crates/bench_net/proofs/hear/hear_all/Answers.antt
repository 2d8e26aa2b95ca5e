use Rattle.std.proofs.Common.{◌++◌, ◌+◌, Bool, false, [], subst, refl, ◌∙◌, arith}
use Rattle.std.proofs.KnownBytes.{Consumes-nil}
use Rattle.bench_net.specs.Pipes.{waiting}
use Rattle.bench_net.specs.Readings.{Hears}
use Rattle.bench_net.proofs.HandLemmas.{HandsOn-same}
use Rattle.bench_net.proofs.HearLemmas.{EndsBy-turn, Hears-none, Hears-trans, concat-more, goes_on}
use Rattle.bench_net.proofs.TextLemmas.{Grows-refl}
use Rattle.bench_net.proofs.hear.hear_all.Goals as goal

pub turns-init : goal.turns-init
turns-init g c = (
  c.requires.empty,
  omega arith,
  refl,
  refl,
  omega arith,
  refl,
  [],
  refl,
  Hears-none g.P.Port.takes g.P.Port.refuses g.P.Port.sent g.I.ByteSource.remaining c.args.port.now c.args.port.now (waiting c.args.pipe.now) (waiting c.args.pipe.now) c.args.source.now c.args.source.now (Consumes-nil _)
      (HandsOn-same g.P.Port.takes g.P.Port.refuses g.P.Port.sent c.args.port.now c.args.port.now (waiting c.args.pipe.now) (waiting c.args.pipe.now) refl refl (Grows-refl _)),
)

-- a turn ended it
pub returns-in-Some-clause-heard : goal.returns-in-Some-clause-heard
returns-in-Some-clause-heard g c =
    let before = c.turns.invariant in
    let heard = c.hear_once-went.ensures.heard in (
      before.6 ++ heard.0,
      heard.1,
      concat-more before.6 heard.0 c.turns.read c.hear_once-went.result.count before.7 heard.2,
      Hears-trans g.P.Port.takes g.P.Port.refuses g.P.Port.sent g.I.ByteSource.remaining c.args.port.now c.turns.port c.hear_once-went.new.port (waiting c.args.pipe.now) (waiting c.turns.pipe) (waiting c.hear_once-went.new.pipe) c.args.source.now c.turns.source c.hear_once-went.new.source before.6 heard.0 heard.1 before.8 heard.3,
      EndsBy-turn g.P.Port.refuses g.I.ByteSource.remaining g.I.ByteSource.reads g.I.ByteSource.failures g.I.ByteSource.blocked c.hear_once-went.new.port c.args.pipe.now c.turns.pipe c.hear_once-went.new.pipe c.args.source.now c.turns.source c.hear_once-went.new.source heard.1 c.hear_once-went.result.end c.in-Some.end
          c.hear_once-went.ensures.reads before.2 before.3 before.0 c.in-Some.is heard.4,
    )

-- it goes on
pub turns-preserved : goal.turns-preserved
turns-preserved g c =
    let before = c.turns.invariant in
    let heard = c.hear_once-went.ensures.heard in
    let on = goes_on g.P.Port.refuses g.I.ByteSource.remaining g.I.ByteSource.reads g.I.ByteSource.failures g.I.ByteSource.blocked c.hear_once-went.new.port c.turns.pipe c.hear_once-went.new.pipe c.turns.source c.hear_once-went.new.source heard.1 c.hear_once-went.result.end c.in_default.is heard.4 in (
      on.1,
      omega (arith, c.hear_once-went.ensures.reads, before.1),
      on.2 ∙ before.2,
      on.3 ∙ before.3,
      omega (arith, before.4, c.hear_once-went.ensures.few),
      c.hear_once-went.ensures.out ∙ before.5,
      before.6 ++ heard.0,
      concat-more before.6 heard.0 c.turns.read c.hear_once-went.result.count before.7 heard.2,
      Hears-trans g.P.Port.takes g.P.Port.refuses g.P.Port.sent g.I.ByteSource.remaining c.args.port.now c.turns.port c.hear_once-went.new.port (waiting c.args.pipe.now) (waiting c.turns.pipe) (waiting c.hear_once-went.new.pipe) c.args.source.now c.turns.source c.hear_once-went.new.source before.6 heard.0 false before.8
          (subst (λ (b : Bool). Hears g.P.Port.takes g.P.Port.refuses g.P.Port.sent g.I.ByteSource.remaining c.turns.port c.hear_once-went.new.port (waiting c.turns.pipe) (waiting c.hear_once-went.new.pipe) c.turns.source c.hear_once-went.new.source heard.0 b) on.0 heard.3),
    )
