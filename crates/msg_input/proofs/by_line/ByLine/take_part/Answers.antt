use Rattle.std.proofs.Common.{ℕ, List, ◌+◌, Some, None, Err, subst, sym, ◌∙◌}
use Rattle.msg_input.specs.Readings.{SoFar, TakesText}
use Rattle.msg_input.proofs.ByLineLemmas.{IsAlong-stopped}
use Rattle.msg_input.proofs.by_line.ByLine.take_part.Goals as goal

-- the line is read no further, unless memory ran out
pub returns-in-Err-clause-along : goal.returns-in-Err-clause-along
returns-in-Err-clause-along g c =
    let says = g.M.Printer.Says c.args.glossary.now in
    let taken = subst (λ (n : ℕ). (first : ℕ) (line written : List ℕ) → SoFar (says (Some n)) first c.args.self.now.reading line written None
    → TakesText (says (Some n)) first (Err c.in-Err.refusal) c.take_text.new.self line c.args.part.now written) c.in_ok-line.ensures c.in-Err.ensures.taken in
    IsAlong-stopped (says (Some (c.args.self.now.before + 1))) c.args.self.now.reading c.take_text.new.self c.stop.new.self.reading c.args.self.now.stopped c.stop.new.self.stopped c.args.part.now c.in-Err.refusal
    c.stop.result (sym c.is_some.ensures ∙ c.if-is_some.false) c.stop.ensures.reading taken c.stop.ensures.stopped
