use Rattle.std.proofs.Common.{sym, ◌∙◌, ap}
use Rattle.tab_text.specs.Names.{is_name}
use Rattle.tab_text.proofs.NameLemmas.{name-long, front-under}
use Rattle.tab_text.proofs.cells.is_named.Goals as goal

pub returns-then-not-is_over : goal.returns-then-not-is_over
returns-then-not-is_over c = λ octets front.
    let short = sym (c.if-not-is_over.ensures octets front) in
    c.is_name.ensures ∙ ap is_name (c.as_slice.ensures.value ∙ sym (front-under octets c.args.cell.now short front))

pub returns-else-not-is_over : goal.returns-else-not-is_over
returns-else-not-is_over c = λ octets front.
    let over = sym (c.if-not-is_over.ensures octets front) in
    rw c.if-not-is_over.false (sym (name-long octets over))
