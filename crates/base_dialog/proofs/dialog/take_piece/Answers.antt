use Rattle.base_dialog.proofs.LineLemmas.{HasAnswered-more}
use Rattle.base_dialog.proofs.dialog.take_piece.Goals as goal

-- the lines of the piece are answered too
pub returns-clause-answered : goal.returns-clause-answered
returns-clause-answered g c = λ start text said so_far.
    HasAnswered-more g.T.Answerer.has_answered start c.args.dialog (record { answerer = c.in_ok-answerer.field-0.answerer; begun = c.take_lines.new.begun }) text c.args.piece.now said c.in_ok-answerer.field-0.text.items
    c.in_ok-lines.lines.items c.in_ok-lines.ensures
    (λ before told answered. rw c.deref.ensures.value at (c.in_ok-answerer.ensures.answered start before told answered)) so_far
