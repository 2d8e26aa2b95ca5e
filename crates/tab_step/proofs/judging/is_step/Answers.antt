use Rattle.std.proofs.Common.{◌≡◌, Some}
use Rattle.tab_step.proofs.MoveLemmas.{no_row}
use Rattle.tab_step.proofs.judging.is_step.Goals as goal

pub returns-then-taken-number : goal.returns-then-taken-number
returns-then-taken-number c =
    let taken = c.in-Some.ensures.some no_row in
    (λ t. cc, λ s. let row = rw taken at s.row in let is = c.in-Some-row-2.is in absurd (c.if-taken-number.true (cc)))

pub returns-in-None-row-2 : goal.returns-in-None-row-2
returns-in-None-row-2 c =
    let taken = c.in-Some.ensures.some no_row in
    (λ t. cc, λ s. let row = rw taken at s.row in let is = c.in-None-row-2.is in absurd (cc))

pub returns-else-taken-number : goal.returns-else-taken-number
returns-else-taken-number c =
    let taken = c.in-Some.ensures.some no_row in
    let is = c.in-Some-row-2.is in
    let same = c.if-taken-number.false in
    let row : c.args.stepped.now.row ≡ Some c.in-Some.number = cc in (
      λ t. record { row = rw taken row; moves = rw taken ((c.moves_along.ensures no_row).0 t) },
      λ s. (c.moves_along.ensures no_row).1 (rw taken at s.moves),
    )
