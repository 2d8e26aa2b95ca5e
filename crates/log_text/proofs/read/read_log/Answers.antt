use Rattle.std.proofs.Common.{◌∙◌, ap, false, arith, subst, sym}
use Rattle.text_parts.specs.Pieces.{pieces_in, pieces_left}
use Rattle.log_text.specs.Books.{named}
use Rattle.log_text.specs.EntryLines.{log_lines}
use Rattle.log_text.proofs.ReadLemmas.{Read, all_read, first_bad, none_read, one_line}
use Rattle.log_text.proofs.read.read_log.Goals as goal

pub loop-line-init : goal.loop-line-init
loop-line-init c = (
  none_read (named c.args.names.now) c.new-reader.result c.new-end.result c.args.text.now (pieces_left c.new-lines.result) (sym c.is_empty.ensures ∙ c.if-is_empty.false)
      c.new-reader.ensures c.new-end.ensures (c.new-lines.ensures.left ∙ ap (pieces_in 10) c.front_of.ensures),
  omega arith,
)

pub loop-line-preserved : goal.loop-line-preserved
loop-line-preserved c = (
  one_line (named c.args.names.now) c.loop-line.reader c.take-short.new.self c.loop-line.end c.next-in-Some.new.self c.loop-line.short c.take-short.result c.in-Some-next.told
      c.args.text.now c.in-Some.line.now (pieces_left c.loop-line.lines) (pieces_left c.next.new.self) c.loop-line.place
      c.loop-line.invariant.0 c.in-Some.ensures.piece.left c.in-Some-next.ensures.told c.in-Some-next.ensures.end c.take-short.ensures.before c.take-short.ensures.taken,
  omega (arith, c.in-Some.ensures.piece.from, c.loop-line.invariant.1),
)

pub returns-in_default-next-clause-fault : goal.returns-in_default-next-clause-fault
returns-in_default-next-clause-fault c =
    first_bad (named c.args.names.now) c.loop-line.reader c.loop-line.end c.loop-line.short c.args.text.now c.in-Some.line.now (pieces_left c.loop-line.lines) (pieces_left c.next.new.self)
    c.loop-line.place c.loop-line.invariant.0 c.in-Some.ensures.piece.left c.in_default-next.ensures.none

pub returns-clause-ok : goal.returns-clause-ok
returns-clause-ok c =
    let names = named c.args.names.now in
    let left = pieces_left c.loop-line.lines in
    let read : Read names c.loop-line.reader c.loop-line.end false c.args.text.now left c.loop-line.place =
    subst (λ short. Read names c.loop-line.reader c.loop-line.end short c.args.text.now left c.loop-line.place) c.if-short.false c.loop-line.invariant.0 in
    ap (log_lines names) c.in_ok-finish.ensures ∙ all_read names c.loop-line.reader c.loop-line.end c.args.text.now left c.loop-line.place read c.in_default.ensures.piece
