use Rattle.std.proofs.Common.{arith, Ok, Some, None, ◌∙◌, refl}
use Rattle.std.proofs.lemmas.Result.{err_from_is_err_and}
use Rattle.text_parts.specs.Left.{line_of, lines_left}
use Rattle.text_parts.specs.Lines.{lines}
use Rattle.tab_text.proofs.ReaderLemmas.{head-found, first_fault-within, first_fault-over}
use Rattle.tab_text.proofs.reader.Reader.open.Goals as goal

pub returns-then-text-gt-MAX_TEXT : goal.returns-then-text-gt-MAX_TEXT
returns-then-text-gt-MAX_TEXT c = first_fault-over c.args.text.now c.if-text-gt-MAX_TEXT.true

pub returns-in_err-line : goal.returns-in_err-line
returns-in_err-line c =
    let text = c.args.text.now in
    let p = err_from_is_err_and c.from_residual.result c.from_residual.ensures.1 in
    let found = rw c.new-lines.ensures at c.in_err-line.ensures in
    rw (p.1, p.2) (first_fault-within text c.if-text-gt-MAX_TEXT.false ∙ head-found (lines text) _ found)

pub returns-in_default : goal.returns-in_default
returns-in_default c =
    let text = c.args.text.now in
    let kept = rw c.in_default.is at c.in_ok-line.ensures in
    let found = rw c.new-lines.ensures at kept in
    first_fault-within text c.if-text-gt-MAX_TEXT.false ∙ head-found (lines text) (Ok None) found

pub returns-in_default-header_of : goal.returns-in_default-header_of
returns-in_default-header_of c =
    let text = c.args.text.now in
    let line = line_of c.in-Some.line in
    let kept = rw c.in-Some.is at c.in_ok-line.ensures in
    let found = rw c.new-lines.ensures at kept in
    let next = head-found (lines text) (Ok (Some (line, lines_left c.next_kept.new.lines))) found in
    first_fault-within text c.if-text-gt-MAX_TEXT.false ∙ next.0 ∙ rw c.in_default-header_of.ensures refl

pub returns : goal.returns
returns c =
    let text = c.args.text.now in
    let line = line_of c.in-Some.line in
    let kept = rw c.in-Some.is at c.in_ok-line.ensures in
    let found = rw c.new-lines.ensures at kept in
    let next = head-found (lines text) (Ok (Some (line, lines_left c.next_kept.new.lines))) found in (
      line,
      record {
        at = record { line = refl; columns = c.in-Some-header_of.ensures.1; count = refl; state = c.new.ensures.values; named = λ some. absurd (omega (arith, some)) };
        kept = next.1;
        fault = first_fault-within text c.if-text-gt-MAX_TEXT.false ∙ next.0 ∙ rw c.in-Some-header_of.ensures.0 refl;
      },
    )
