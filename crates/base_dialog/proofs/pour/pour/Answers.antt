use Rattle.std.proofs.Common.{◌<◌, ◌++◌, ◌∙◌, [], List, ℕ, length, take, arith}
use Rattle.std.specs.Io.KnownBytes.{Consumes, IsAtEnd}
use Rattle.std.proofs.lemmas.List.{append-nil}
use Rattle.std.proofs.KnownBytes.{Appends-trans, Consumes-trans}
use Rattle.base_device.specs.declared.device.DeviceFailed.{DeviceFailed}
use Rattle.base_dialog.proofs.PourLemmas.{Consumes-given, Consumes-none, IsAtEnd-given, PouredFront-so_far, poured_closed}
use Rattle.base_dialog.proofs.pour.pour.Goals as goal

-- a read that gave nothing found the end
pub returns-in-Ok-Some-eq0-clause-poured : goal.returns-in-Ok-Some-eq0-clause-poured
returns-in-Ok-Some-eq0-clause-poured g c =
    let arm = c.in-Ok-Some-eq0 in
    let room : 0 < length c.read.new.buffer = omega arith in
    let at_end : IsAtEnd (g.I.ByteSource.remaining c.read.new.self) =
    IsAtEnd-given DeviceFailed _ _ arm.field-0 arm.field-0-0 _ arm.field-0-is arm.field-0-0-test room arm.ensures.octets in
    let read = c.reads.invariant.7 in
    let written = c.reads.invariant.8 in
    let last : Consumes (g.I.ByteSource.remaining c.reads.source) (g.I.ByteSource.remaining c.read.new.self) [] =
    Consumes-none DeviceFailed _ _ arm.field-0 arm.field-0-0 c.read.new.buffer arm.field-0-is arm.field-0-0-test arm.ensures.octets in
    poured_closed g.T.Answerer.has_answered c.args.answerer c.reads.dialog g.I.ByteSource.remaining g.I.ByteSource.reads g.I.ByteSource.failures g.O.ByteSink.contents c.args.source.now c.read.new.self c.args.sink.now c.reads.sink c.close.new.sink
    read written c.close.result (rw append-nil at (Consumes-trans _ _ _ read [] c.reads.invariant.9 last)) at_end (arm.ensures.failures ∙ c.reads.invariant.1) c.reads.invariant.10 c.reads.invariant.11 c.close.ensures.closed

-- memory ran out for the text that came
pub returns-in_default-clause-poured : goal.returns-in_default-clause-poured
returns-in_default-clause-poured g c =
    let arm = c.in-Ok-Some in
    let read = c.reads.invariant.7 in
    let written = c.reads.invariant.8 in
    let came : Consumes (g.I.ByteSource.remaining c.reads.source) (g.I.ByteSource.remaining c.read.new.self) (take arm.count c.read.new.buffer) =
    Consumes-given DeviceFailed _ _ arm.field-0 arm.count c.read.new.buffer arm.field-0-is arm.ensures.octets in (
      arm.ensures.failures ∙ c.reads.invariant.1,
      PouredFront-so_far g.T.Answerer.has_answered c.args.answerer c.reads.dialog g.I.ByteSource.remaining g.O.ByteSink.contents c.args.source.now c.read.new.self c.args.sink.now c.reads.sink read (take arm.count c.read.new.buffer) written
          (Consumes-trans _ _ _ read (take arm.count c.read.new.buffer) c.reads.invariant.9 came) c.reads.invariant.10 c.reads.invariant.11,
    )

-- the text that came was taken, and the answers to its lines were written out
pub reads-preserved : goal.reads-preserved
reads-preserved g c =
    let arm = c.in-Ok-Some in
    let taken = c.in-Ok in
    let whole = rw c.deref.ensures.value at c.in_ok-write_whole.ensures.whole in
    let read = c.reads.invariant.7 in
    let written = c.reads.invariant.8 in
    let said : List ℕ = taken.answered.text.items in
    let came : Consumes (g.I.ByteSource.remaining c.reads.source) (g.I.ByteSource.remaining c.read.new.self) (take arm.count c.read.new.buffer) =
    Consumes-given DeviceFailed _ _ arm.field-0 arm.count c.read.new.buffer arm.field-0-is arm.ensures.octets in (
      omega (arith, arm.ensures.reads, c.reads.invariant.0),
      arm.ensures.failures ∙ c.reads.invariant.1,
      whole.busy,
      whole.sound ∙ c.reads.invariant.3,
      (let row = c.write_whole.ensures.row in let before = c.reads.invariant.4 in omega arith),
      taken.ensures.line,
      taken.ensures.stands,
      read ++ take arm.count c.read.new.buffer,
      written ++ said,
      Consumes-trans _ _ _ read (take arm.count c.read.new.buffer) c.reads.invariant.9 came,
      Appends-trans _ _ _ written said c.reads.invariant.10 whole.appended,
      taken.ensures.answered c.args.answerer read written c.reads.invariant.11,
    )
