use Rattle.std.proofs.Common.{◌<◌, ◌≤◌, ◌++◌, ◌∙◌, [], List, ℕ, length, take, arith, None}
use Rattle.std.specs.Io.KnownBytes.{Consumes, IsAtEnd}
use Rattle.std.proofs.lemmas.List.{append-nil}
use Rattle.std.proofs.KnownBytes.{Appends-trans, Consumes-trans}
use Rattle.base_device.specs.declared.device.DeviceFailed.{DeviceFailed}
use Rattle.msg_input.proofs.EndLemmas.{Consumes-given, Consumes-none, EndsBy-last, IsAtEnd-given}
use Rattle.msg_input.proofs.ReadLemmas.{IsPrintedOf-at_end, IsPrintedOf-taken, front_is_no_longer}
use Rattle.msg_input.proofs.read.pour.Goals as goal

-- a read that gave nothing found the end
pub returns-in-Ok-Some-eq0-clause-end : goal.returns-in-Ok-Some-eq0-clause-end
returns-in-Ok-Some-eq0-clause-end g c =
    let arm = c.in-Ok-Some-eq0 in
    let room : 0 < length c.read.new.buffer = omega arith in
    let at_end : IsAtEnd (g.I.ByteSource.remaining c.read.new.self) =
    IsAtEnd-given DeviceFailed _ _ arm.field-0 arm.field-0-0 _ arm.field-0-is arm.field-0-0-test room arm.ensures.octets in
    EndsBy-last g.I.ByteSource.remaining g.I.ByteSource.reads g.I.ByteSource.failures c.args.source.now c.read.new.self c.end.result
    at_end (arm.ensures.failures ∙ c.reads.invariant.1) c.end.ensures.last

pub returns-in-Ok-Some-eq0-clause-report : goal.returns-in-Ok-Some-eq0-clause-report
returns-in-Ok-Some-eq0-clause-report g c =
    let arm = c.in-Ok-Some-eq0 in
    let room : 0 < length c.read.new.buffer = omega arith in
    let at_end : IsAtEnd (g.I.ByteSource.remaining c.read.new.self) =
    IsAtEnd-given DeviceFailed _ _ arm.field-0 arm.field-0-0 _ arm.field-0-is arm.field-0-0-test room arm.ensures.octets in
    let read = c.reads.invariant.6 in
    let written = c.reads.invariant.7 in
    let last : Consumes (g.I.ByteSource.remaining c.reads.source) (g.I.ByteSource.remaining c.read.new.self) [] =
    Consumes-none DeviceFailed _ _ arm.field-0 arm.field-0-0 c.read.new.buffer arm.field-0-is arm.field-0-0-test arm.ensures.octets in
    record {
      text = read;
      written = written;
      read = rw append-nil at (Consumes-trans _ _ _ read [] c.reads.invariant.8 last);
      taken = c.reads.invariant.9;
      printed = IsPrintedOf-at_end (g.M.Printer.Says c.args.glossary.now None) 0 _ read _ c.end.result _ _ at_end (c.end.ensures.printed 0 read written c.reads.invariant.10);
    }

-- the text that came was refused
pub returns-in-Err-take_text-clause-report : goal.returns-in-Err-take_text-clause-report
returns-in-Err-take_text-clause-report g c =
    let arm = c.in-Ok-Some in
    let read = c.reads.invariant.6 in
    let written = c.reads.invariant.7 in
    let came : Consumes (g.I.ByteSource.remaining c.reads.source) (g.I.ByteSource.remaining c.read.new.self) (take arm.count c.read.new.buffer) =
    Consumes-given DeviceFailed _ _ arm.field-0 arm.count c.read.new.buffer arm.field-0-is arm.ensures.octets in
    let shorter = front_is_no_longer arm.count c.read.new.buffer in
    let few : length (take arm.count c.read.new.buffer) ≤ 65536 = omega arith in
    record {
      text = read ++ take arm.count c.read.new.buffer;
      written = written;
      read = Consumes-trans _ _ _ read (take arm.count c.read.new.buffer) c.reads.invariant.8 came;
      taken = c.reads.invariant.9;
      printed = IsPrintedOf-taken (g.M.Printer.Says c.args.glossary.now None) 0 _ c.take_text.new.self read (take arm.count c.read.new.buffer) written c.in-Err-take_text.refusal few (c.in-Err-take_text.ensures.taken 0 read written c.reads.invariant.10);
    }

-- the text that came was taken, and its lines were written out
pub reads-preserved : goal.reads-preserved
reads-preserved g c =
    let arm = c.in-Ok-Some in
    let whole = rw c.text.ensures at c.in_ok-write_whole.ensures.whole in
    let read = c.reads.invariant.6 in
    let written = c.reads.invariant.7 in
    let lines : List ℕ = c.take_text.new.self.report.out.items in
    let came : Consumes (g.I.ByteSource.remaining c.reads.source) (g.I.ByteSource.remaining c.read.new.self) (take arm.count c.read.new.buffer) =
    Consumes-given DeviceFailed _ _ arm.field-0 arm.count c.read.new.buffer arm.field-0-is arm.ensures.octets in (
      omega (arith, arm.ensures.reads, c.reads.invariant.0),
      arm.ensures.failures ∙ c.reads.invariant.1,
      whole.busy,
      whole.sound ∙ c.reads.invariant.3,
      (let row = c.write_whole.ensures.row in let before = c.reads.invariant.4 in omega arith),
      (let shorter = front_is_no_longer arm.count c.read.new.buffer in
          let few : length (take arm.count c.read.new.buffer) ≤ 65536 = omega arith in
          let taken = c.take_text.ensures.characters in
          omega arith),
      read ++ take arm.count c.read.new.buffer,
      written ++ lines,
      Consumes-trans _ _ _ read (take arm.count c.read.new.buffer) c.reads.invariant.8 came,
      Appends-trans _ _ _ written lines c.reads.invariant.9 whole.appended,
      c.clear.ensures.so_far c.args.glossary.now None 0 (read ++ take arm.count c.read.new.buffer) written (c.in_default.ensures.taken 0 read written c.reads.invariant.10),
    )
