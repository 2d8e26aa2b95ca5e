use Rattle.tab_step.proofs.MoveLemmas.{no_row}
use Rattle.tab_step.proofs.stepping.step_into.Goals as goal

pub returns-in-Some : goal.returns-in-Some
returns-in-Some g c =
    let taken = rw c.laws-book.ensures at (c.in-Some.ensures.some no_row) in
    record { row = rw taken c.go_along.ensures.row; moves = rw taken (c.go_along.ensures.along no_row) }
