use Rattle.std.proofs.Common.{◌≡◌, ◌<◌, ◌++◌, ◌+◌, ◌-◌, ◌∷◌, [], length, take, drop, sym, ap, ◌∙◌, append_assoc, arith}
use Rattle.std.proofs.lemmas.List.{take_all, take_rest}
use Rattle.std.proofs.lemmas.Result.{err_from_is_err_and}
use Rattle.msg_input.proofs.ByLineLemmas.{KeepsTexts-both, LinesSoFar-line, LinesSoFar-rest, TakesLines-halted, newline_at}
use Rattle.msg_input.specs.ByLine.{says_by}
use Rattle.msg_input.proofs.by_line.ByLine.take_text.Goals as goal

-- memory ran out for the line
pub returns-in_err-take_part-clause-taken : goal.returns-in_err-take_part-clause-taken
returns-in_err-take_part-clause-taken g c = λ before written so_far.
    let answer = err_from_is_err_and c.from_residual.result c.from_residual.ensures.1 in
    TakesLines-halted (says_by (g.M.Printer.Says c.args.glossary.now)) g.M.Printer.line_text c.lines.self c.take_part.new.self before c.lines.invariant.0 c.lines.rest.now c.args.text.now written c.from_residual.result answer.0
    answer.1 c.lines.invariant.1 (c.lines.invariant.3 before written so_far) c.take_part.ensures.kept

-- the line isn't ended
pub returns-then-len-rest-clause-taken : goal.returns-then-len-rest-clause-taken
returns-then-len-rest-clause-taken g c = λ before written so_far.
    let rest = c.lines.rest.now in
    let len = c.line_len-len.result in
    let all : take len rest ≡ rest = take_all len rest (omega (arith, c.if-len-rest.true)) in
    LinesSoFar-rest (says_by (g.M.Printer.Says c.args.glossary.now)) g.M.Printer.line_text c.lines.self c.take_part.new.self before c.lines.invariant.0 (take len rest) c.args.text.now written
    (c.lines.invariant.1 ∙ ap (λ xs. c.lines.invariant.0 ++ xs) (sym all)) (c.lines.invariant.3 before written so_far) c.take_part.ensures.kept c.line_len-len.ensures.line c.in_ok-take_part.ensures.along

-- memory ran out for the text of the line
pub returns-in_err-end_line-clause-taken : goal.returns-in_err-end_line-clause-taken
returns-in_err-end_line-clause-taken g c = λ before written so_far.
    let answer = err_from_is_err_and c.from_residual-in_err-end_line.result c.from_residual-in_err-end_line.ensures.1 in
    TakesLines-halted (says_by (g.M.Printer.Says c.args.glossary.now)) g.M.Printer.line_text c.lines.self c.end_line.new.self before c.lines.invariant.0 c.lines.rest.now c.args.text.now written c.from_residual-in_err-end_line.result answer.0
    answer.1 c.lines.invariant.1 (c.lines.invariant.3 before written so_far) (KeepsTexts-both c.lines.self c.take_part.new.self c.end_line.new.self c.take_part.ensures.kept c.in_err-end_line.ensures.err)

-- a line more
pub lines-preserved : goal.lines-preserved
lines-preserved g c =
    let rest = c.lines.rest.now in
    let len = c.line_len-len.result in
    let used = c.lines.invariant.0 in
    let before_end : len < length rest = omega (arith, c.line_len-len.ensures.within, c.if-len-rest.false) in
    let whole = newline_at len rest before_end (c.line_len-len.ensures.newline before_end) in
    let left : drop (len + 1) rest ≡ take (length rest - (len + 1)) (drop (len + 1) rest) = sym (take_rest rest (len + 1)) in
    let cut = ap (λ xs. used ++ xs) (whole ∙ ap (λ xs. (take len rest ++ 10 ∷ []) ++ xs) left) ∙ sym (append_assoc used (take len rest ++ 10 ∷ []) _) in (
      used ++ (take len rest ++ 10 ∷ []),
      c.lines.invariant.1 ∙ cut,
      (let begun = c.in_ok-end_line.ensures.begun in let so_far = c.lines.invariant.2 in omega arith),
      λ before written so_far.
          LinesSoFar-line (says_by (g.M.Printer.Says c.args.glossary.now)) g.M.Printer.line_text c.lines.self c.take_part.new.self c.end_line.new.self before used (take len rest) written
          (c.lines.invariant.3 before written so_far) c.take_part.ensures.kept c.line_len-len.ensures.line c.in_ok-take_part.ensures.along c.in_ok-end_line.ensures.ended,
    )
