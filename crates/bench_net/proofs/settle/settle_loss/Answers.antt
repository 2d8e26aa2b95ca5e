use Rattle.std.proofs.Common.{◌≡◌, Ok}
use Rattle.bench_net.specs.Answers.{meaning_of}
use Rattle.bench_net.specs.Events.{Lost}
use Rattle.bench_net.proofs.AnswerLemmas.{settled_by}
use Rattle.bench_net.proofs.HandLemmas.{HandsOn-first, loss_first}
use Rattle.bench_net.proofs.settle.settle_loss.Goals as goal

-- the port took the loss, or has no use for it
pub returns-in-Ok-clause-handed : goal.returns-in-Ok-clause-handed
returns-in-Ok-clause-handed g c =
    let settled : meaning_of c.lost.result ≡ Ok c.in-Ok.answer = cc in
    let pipe = c.args.pipe.now in
    HandsOn-first g.P.Port.takes g.P.Port.refuses g.P.Port.sent c.args.port.now c.lost.new.self _ _ Lost
    (loss_first pipe.kept pipe.room pipe.losing c.requires c.if-not-pipe.false)
    (settled_by g.P.Port.takes g.P.Port.refuses c.args.port.now c.lost.new.self Lost c.lost.result c.in-Ok.answer c.lost.ensures.taken c.lost.ensures.refused c.lost.ensures.err settled)
    c.lost.ensures.grows
