use Rattle.std.proofs.Common.{◌≡◌, Ok, Err, take}
use Rattle.bench_net.specs.Answers.{meaning_of}
use Rattle.bench_net.specs.Events.{Came}
use Rattle.bench_net.specs.Pipes.{loss_waiting}
use Rattle.bench_net.proofs.AnswerLemmas.{held_by, settled_by}
use Rattle.bench_net.proofs.HandLemmas.{HandsOn-first, first_piece, piece_first}
use Rattle.bench_net.proofs.settle.settle_piece.Goals as goal

-- the port took the piece, or has no use for it
pub returns-in-Ok-clause-handed : goal.returns-in-Ok-clause-handed
returns-in-Ok-clause-handed g c =
    let settled : meaning_of c.came.result ≡ Ok c.in-Ok.answer = cc in
    let pipe = c.args.pipe.now in
    HandsOn-first g.P.Port.takes g.P.Port.refuses g.P.Port.sent c.args.port.now c.came.new.self _ _ (Came (take pipe.kept pipe.room))
    (piece_first pipe.kept pipe.room pipe.losing c.if-pipe-eq0.false)
    (settled_by g.P.Port.takes g.P.Port.refuses c.args.port.now c.came.new.self (Came (take pipe.kept pipe.room)) c.came.result c.in-Ok.answer c.came.ensures.taken c.came.ensures.refused c.came.ensures.err settled)
    c.came.ensures.grows

-- the port wants the piece later
pub returns-in-Err-clause-held : goal.returns-in-Err-clause-held
returns-in-Err-clause-held g c =
    let stopped : meaning_of c.came.result ≡ Err c.in-Err.stop = cc in
    let pipe = c.args.pipe.now in (
      Came (take pipe.kept pipe.room),
      loss_waiting pipe.losing,
      first_piece pipe.kept pipe.room pipe.losing c.if-pipe-eq0.false,
      held_by g.P.Port.refuses c.args.port.now c.came.new.self (Came (take pipe.kept pipe.room)) c.came.result c.in-Err.stop c.came.ensures.refused c.came.ensures.err stopped,
    )
