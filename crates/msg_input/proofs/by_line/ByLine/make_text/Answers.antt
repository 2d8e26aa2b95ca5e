use Rattle.std.proofs.Common.{◌≡◌, ◌++◌, ◌+◌, Some, Bool, refl, subst, sym}
use Rattle.msg_input.specs.ByLine.{says_by}
use Rattle.msg_input.specs.ByLineSoFar.{IsAlong}
use Rattle.msg_input.specs.Inputs.{IsPrintedOf}
use Rattle.msg_input.specs.Readings.{place_of}
use Rattle.msg_input.proofs.ByLineLemmas.{PrintsLine-made}
use Rattle.msg_input.proofs.by_line.ByLine.make_text.Goals as goal

-- the lines of the line, and what is told of its end
pub returns-clause-made : goal.returns-clause-made
returns-clause-made g c =
    let old = c.args.self.now in
    let new = c.end_of_line-end.new.self in
    let says = g.M.Printer.Says c.args.glossary.now in
    let text : c.put_line_end.new.out.items ≡ new.reading.report.out.items ++ g.M.Printer.line_text (old.before + 1) c.end_of_line-end.result (place_of new.reading) =
    rw (c.in_ok-put_line_end.ensures, c.in_ok-extend_from_slice.ensures.items, c.clear.ensures.items, c.text.ensures, c.in_ok-number.ensures, c.place.ensures) refl in
    PrintsLine-made (says_by says) g.M.Printer.line_text (λ first line. IsAlong (says (Some (old.before + 1))) first old.reading line old.stopped) old.before
    new.reading.report.out.items c.put_line_end.new.out.items c.end_of_line-end.result c.has_refused.result (place_of new.reading) new.reading.report.messages c.judged.result
    (λ first line along. subst (λ (b : Bool). IsPrintedOf (says (Some (old.before + 1))) first (Unit {0}) line new.reading.report.out.items c.end_of_line-end.result b (place_of new.reading)) (sym c.has_refused.ensures)
    ((rw c.in_ok-number.ensures at c.end_of_line-end.ensures.printed) first line along)) text refl c.judged.ensures
