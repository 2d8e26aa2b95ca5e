use Rattle.std.proofs.Common.{not, inl, ◌∙◌, ◌||◌, ◌&&◌}
use Rattle.bench_net.specs.Pipes.{waiting}
use Rattle.bench_net.specs.Pumps.{is_ended}
use Rattle.bench_net.specs.declared.end.End.TheVariants.{Failed, Over}
use Rattle.bench_net.specs.declared.fault.PumpCode.TheVariants as codes
use Rattle.bench_net.proofs.HearLemmas.{Hears-then}
use Rattle.bench_net.proofs.PumpLemmas.{at_end, done, heard_so, lost_by, lost_now, sent_so}
use Rattle.bench_net.proofs.SendLemmas.{Sends-grown}
use Rattle.bench_net.proofs.pumping.pump_once.Goals as goal

-- a read failed
pub returns-in-Failed-clause-heard : goal.returns-in-Failed-clause-heard
returns-in-Failed-clause-heard g c =
    let heard = c.hear-heard.ensures.heard in
    let old = c.args.pipe.now in
    let mid = c.hear-heard.new.pipe in
    let by = at_end g.P.Port.refuses g.I.ByteSource.remaining g.I.ByteSource.reads g.I.ByteSource.failures g.I.ByteSource.blocked c.hear-heard.new.port old mid c.args.source.now c.hear-heard.new.source heard.1 c.hear-heard.result.end Failed c.in-Failed.is heard.4 in
    heard_so g.P.Port.takes g.P.Port.refuses g.P.Port.sent g.I.ByteSource.remaining g.I.ByteSource.blocked c.args.port.now c.lose.new.port old c.lose.new.pipe c.args.source.now c.hear-heard.new.source c.fault.result
    (record { code = codes.ReadFault; read = c.hear-heard.result.read; written = 0 }) heard.0 (heard.1 || not mid.losing) c.fault.ensures heard.2
    (Hears-then g.P.Port.takes g.P.Port.refuses g.P.Port.sent g.I.ByteSource.remaining c.args.port.now c.hear-heard.new.port c.lose.new.port (waiting old) (waiting mid) (waiting c.lose.new.pipe) c.args.source.now c.hear-heard.new.source heard.0 heard.1 (not mid.losing) heard.3 c.lose.ensures.handed (λ e. by.0))
    (inl (lost_now heard.1 mid.losing by.1.1), c.lose.ensures.none_kept by.1.0)

-- all turns were made reading
pub returns-in-Over-clause-heard : goal.returns-in-Over-clause-heard
returns-in-Over-clause-heard g c =
    let heard = c.hear-heard.ensures.heard in
    let old = c.args.pipe.now in
    let mid = c.hear-heard.new.pipe in
    let by = at_end g.P.Port.refuses g.I.ByteSource.remaining g.I.ByteSource.reads g.I.ByteSource.failures g.I.ByteSource.blocked c.hear-heard.new.port old mid c.args.source.now c.hear-heard.new.source heard.1 c.hear-heard.result.end Over c.in-Over.is heard.4 in
    heard_so g.P.Port.takes g.P.Port.refuses g.P.Port.sent g.I.ByteSource.remaining g.I.ByteSource.blocked c.args.port.now c.lose-in-Over.new.port old c.lose-in-Over.new.pipe c.args.source.now c.hear-heard.new.source c.fault-in-Over.result
    (record { code = codes.TurnsOver; read = c.hear-heard.result.read; written = 0 }) heard.0 (heard.1 || not mid.losing) c.fault-in-Over.ensures heard.2
    (Hears-then g.P.Port.takes g.P.Port.refuses g.P.Port.sent g.I.ByteSource.remaining c.args.port.now c.hear-heard.new.port c.lose-in-Over.new.port (waiting old) (waiting mid) (waiting c.lose-in-Over.new.pipe) c.args.source.now c.hear-heard.new.source heard.0 heard.1 (not mid.losing) heard.3 c.lose-in-Over.ensures.handed (λ e. by.0))
    (inl (lost_now heard.1 mid.losing by.1.1), inl (c.lose-in-Over.ensures.none_kept by.1.0))

-- a write failed
pub returns-in-Failed-said-clause-heard : goal.returns-in-Failed-said-clause-heard
returns-in-Failed-said-clause-heard g c =
    let heard = c.hear-heard.ensures.heard in
    let old = c.args.pipe.now in
    let mid = c.hear-heard.new.pipe in
    let told = c.send-told.new.pipe in
    let new = c.lose_unless_ended.new.pipe in
    let end = c.hear-heard.result.end in
    let lost = lost_by g.P.Port.takes g.P.Port.refuses g.P.Port.sent g.I.ByteSource.remaining g.I.ByteSource.reads g.I.ByteSource.failures g.I.ByteSource.blocked c.args.port.now c.hear-heard.new.port c.lose_unless_ended.new.port old mid told new c.args.source.now c.hear-heard.new.source heard.0 heard.1 end
    heard.3 heard.4 c.send-told.ensures.waiting c.send-told.ensures.losing c.lose_unless_ended.ensures.handed in
    heard_so g.P.Port.takes g.P.Port.refuses g.P.Port.sent g.I.ByteSource.remaining g.I.ByteSource.blocked c.args.port.now c.lose_unless_ended.new.port old new c.args.source.now c.hear-heard.new.source c.fault-in-Failed-said.result
    (record { code = codes.WriteFault; read = c.hear-heard.result.read; written = c.send-told.result.written }) heard.0 (heard.1 || (not (is_ended end) && not told.losing)) c.fault-in-Failed-said.ensures heard.2 lost.0 lost.1

-- all turns were made writing
pub returns-in-Over-said-clause-heard : goal.returns-in-Over-said-clause-heard
returns-in-Over-said-clause-heard g c =
    let heard = c.hear-heard.ensures.heard in
    let old = c.args.pipe.now in
    let mid = c.hear-heard.new.pipe in
    let told = c.send-told.new.pipe in
    let new = c.lose_unless_ended-in-Over-said.new.pipe in
    let end = c.hear-heard.result.end in
    let all = done g.P.Port.refuses g.I.ByteSource.remaining g.I.ByteSource.reads g.I.ByteSource.failures g.I.ByteSource.blocked c.hear-heard.new.port old mid c.args.source.now c.hear-heard.new.source heard.1 end heard.4 c.in_default.not-Failed c.in_default-end.not-Over c.in_default-end-2.not-Held in
    let lost = lost_by g.P.Port.takes g.P.Port.refuses g.P.Port.sent g.I.ByteSource.remaining g.I.ByteSource.reads g.I.ByteSource.failures g.I.ByteSource.blocked c.args.port.now c.hear-heard.new.port c.lose_unless_ended-in-Over-said.new.port old mid told new c.args.source.now c.hear-heard.new.source heard.0 heard.1 end
    heard.3 heard.4 c.send-told.ensures.waiting c.send-told.ensures.losing c.lose_unless_ended-in-Over-said.ensures.handed in
    heard_so g.P.Port.takes g.P.Port.refuses g.P.Port.sent g.I.ByteSource.remaining g.I.ByteSource.blocked c.args.port.now c.lose_unless_ended-in-Over-said.new.port old new c.args.source.now c.hear-heard.new.source c.fault-in-Over-said.result
    (record { code = codes.TurnsOver; read = c.hear-heard.result.read; written = c.send-told.result.written }) heard.0 (heard.1 || (not (is_ended end) && not told.losing)) c.fault-in-Over-said.ensures heard.2 lost.0
    (lost.1, inl (c.lose_unless_ended-in-Over-said.ensures.none_kept (c.send-told.ensures.kept ∙ all.0.0)))

pub returns-in-Failed-said-clause-sent : goal.returns-in-Failed-said-clause-sent
returns-in-Failed-said-clause-sent g c =
    let lose = c.lose_unless_ended in
    sent_so g.P.Port.sent g.O.ByteSink.contents lose.new.port c.args.pipe.now.out lose.new.pipe.out c.args.sink.now c.send-told.new.sink c.fault-in-Failed-said.result
    (record { code = codes.WriteFault; read = c.hear-heard.result.read; written = c.send-told.result.written }) c.fault-in-Failed-said.ensures
    (Sends-grown g.P.Port.sent g.O.ByteSink.contents c.hear-heard.new.port lose.new.port c.args.pipe.now.out c.hear-heard.new.pipe.out c.send-told.new.pipe.out lose.new.pipe.out c.args.sink.now c.send-told.new.sink c.send-told.result.written
    c.send-told.ensures.sent c.hear-heard.ensures.out lose.ensures.out lose.ensures.handed.grown)

pub returns-in-Over-said-clause-sent : goal.returns-in-Over-said-clause-sent
returns-in-Over-said-clause-sent g c =
    let lose = c.lose_unless_ended-in-Over-said in
    sent_so g.P.Port.sent g.O.ByteSink.contents lose.new.port c.args.pipe.now.out lose.new.pipe.out c.args.sink.now c.send-told.new.sink c.fault-in-Over-said.result
    (record { code = codes.TurnsOver; read = c.hear-heard.result.read; written = c.send-told.result.written }) c.fault-in-Over-said.ensures
    (Sends-grown g.P.Port.sent g.O.ByteSink.contents c.hear-heard.new.port lose.new.port c.args.pipe.now.out c.hear-heard.new.pipe.out c.send-told.new.pipe.out lose.new.pipe.out c.args.sink.now c.send-told.new.sink c.send-told.result.written
    c.send-told.ensures.sent c.hear-heard.ensures.out lose.ensures.out lose.ensures.handed.grown)
