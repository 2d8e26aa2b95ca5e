use Rattle.std.proofs.Common.{◌≡◌, ◌<◌, length, get_or, false, ◌==◌, rules}
use Rattle.std.proofs.lemmas.List.{take_rest}
use Rattle.tab_text.proofs.TokenLemmas.{first-comma, first-other, no-word}
use Rattle.tab_text.proofs.cells.first_word.Goals as goal

pub returns-then-is_empty : goal.returns-then-is_empty
returns-then-is_empty c =
    let none : length c.trimmed_front-rest.result.now ≡ 0 = search rules in
    no-word c.args.part.now c.trimmed_front-rest.result.now c.trimmed_front-rest.ensures none

pub returns-then-rest-eq44 : goal.returns-then-rest-eq44
returns-then-rest-eq44 c =
    let rest = c.trimmed_front-rest.result.now in
    let some : 0 < length rest = search rules in
    rw (take_rest rest 1) (first-comma c.args.part.now rest _ c.trimmed_front-rest.ensures some c.if-rest-eq44.true)

pub returns : goal.returns
returns c =
    let rest = c.trimmed_front-rest.result.now in
    let some : 0 < length rest = search rules in
    let other : (get_or rest 0 0 == 44) ≡ false = search rules in
    rw (take_rest rest c.unwrap_or-len.result) (first-other c.args.part.now rest 0 c.unwrap_or-len.result c.trimmed_front-rest.ensures some other (rw (← c.token_end.ensures) c.unwrap_or-len.ensures))
