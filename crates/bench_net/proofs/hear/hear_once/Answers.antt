use Rattle.std.proofs.Common.{◌≡◌, false, true, [], ◌∷◌, length, take, refl, arith}
use Rattle.bench_net.specs.Pipes.{waiting}
use Rattle.bench_net.proofs.HandLemmas.{loss_behind, piece_behind, still_empty, waits}
use Rattle.bench_net.proofs.HearLemmas.{TurnsBy-input, TurnsBy-piece, loss_heard, nothing_heard, one_piece, piece_heard}
use Rattle.bench_net.proofs.hear.hear_once.Goals as goal

-- a piece was read
pub returns-in-Octets-clause-heard : goal.returns-in-Octets-clause-heard
returns-in-Octets-clause-heard g c =
    let count = c.in-Octets.count in
    let room = c.read_once.new.room in
    let given = c.in-Octets.ensures.given in
    let pipe = c.args.pipe.now in
    let all : length room ≡ 4096 = omega arith in (
      take count room ∷ [],
      false,
      one_piece count room given.1,
      piece_heard g.P.Port.takes g.P.Port.refuses g.P.Port.sent g.I.ByteSource.remaining c.args.port.now c.settle.new.port (waiting pipe) (waits count room pipe.losing) (waiting c.settle.new.pipe) c.args.source.now c.read_once.new.source count room c.settle.ensures.handed
          (piece_behind pipe.kept pipe.room pipe.losing count room c.requires.empty.0 c.requires.empty.1 given.0) given.0 given.1 all c.in-Octets.ensures.octets,
      TurnsBy-piece g.P.Port.refuses g.I.ByteSource.remaining g.I.ByteSource.reads g.I.ByteSource.failures g.I.ByteSource.blocked c.settle.new.port pipe c.settle.new.pipe c.args.source.now c.read_once.new.source c.settle.result c.end_of_piece-end.result
          c.settle.ensures.empty c.settle.ensures.declined c.settle.ensures.held c.settle.ensures.losing given.2 given.3 c.end_of_piece-end.ensures,
    )

-- the end was found
pub returns-in-End-clause-heard : goal.returns-in-End-clause-heard
returns-in-End-clause-heard g c =
    let given = c.in-End.ensures.given in let pipe = c.args.pipe.now in (
      [],
      true,
      refl,
      loss_heard g.P.Port.takes g.P.Port.refuses g.P.Port.sent g.I.ByteSource.remaining c.args.port.now c.settle-in-End.new.port (waiting pipe) (waits pipe.kept c.read_once.new.room true) (waiting c.settle-in-End.new.pipe) c.args.source.now c.read_once.new.source c.settle-in-End.ensures.handed
          (loss_behind pipe.kept pipe.room pipe.losing c.read_once.new.room c.requires.empty.0 c.requires.empty.1) c.in-End.ensures.octets,
      TurnsBy-input g.P.Port.refuses g.I.ByteSource.remaining g.I.ByteSource.reads g.I.ByteSource.failures g.I.ByteSource.blocked c.settle-in-End.new.port pipe c.settle-in-End.new.pipe c.args.source.now c.read_once.new.source c.settle-in-End.result c.end_of_input-end.result
          c.settle-in-End.ensures.empty c.settle-in-End.ensures.held c.settle-in-End.ensures.still_losing given.1 given.0 c.end_of_input-end.ensures,
    )

-- nothing was read
pub returns-in-Later-clause-heard : goal.returns-in-Later-clause-heard
returns-in-Later-clause-heard g c =
    let given = c.in-Later.ensures.given in let pipe = c.args.pipe.now in (
      [],
      false,
      refl,
      nothing_heard g.P.Port.takes g.P.Port.refuses g.P.Port.sent g.I.ByteSource.remaining c.args.port.now (waiting pipe) (waits pipe.kept c.read_once.new.room pipe.losing) c.args.source.now c.read_once.new.source
          (still_empty pipe.kept pipe.room pipe.losing c.read_once.new.room c.requires.empty.0 c.requires.empty.1) c.in-Later.ensures.octets,
      (refl, c.requires.empty, given.1, given.0),
    )

pub returns-in-Again-clause-heard : goal.returns-in-Again-clause-heard
returns-in-Again-clause-heard g c =
    let given = c.in-Again.ensures.given in let pipe = c.args.pipe.now in (
      [],
      false,
      refl,
      nothing_heard g.P.Port.takes g.P.Port.refuses g.P.Port.sent g.I.ByteSource.remaining c.args.port.now (waiting pipe) (waits pipe.kept c.read_once.new.room pipe.losing) c.args.source.now c.read_once.new.source
          (still_empty pipe.kept pipe.room pipe.losing c.read_once.new.room c.requires.empty.0 c.requires.empty.1) c.in-Again.ensures.octets,
      (refl, c.requires.empty, given.0, given.1),
    )

pub returns-in-Failed-clause-heard : goal.returns-in-Failed-clause-heard
returns-in-Failed-clause-heard g c =
    let pipe = c.args.pipe.now in (
      [],
      false,
      refl,
      nothing_heard g.P.Port.takes g.P.Port.refuses g.P.Port.sent g.I.ByteSource.remaining c.args.port.now (waiting pipe) (waits pipe.kept c.read_once.new.room pipe.losing) c.args.source.now c.read_once.new.source
          (still_empty pipe.kept pipe.room pipe.losing c.read_once.new.room c.requires.empty.0 c.requires.empty.1) c.in-Failed.ensures.octets,
      (refl, c.requires.empty, c.in-Failed.ensures.given),
    )
