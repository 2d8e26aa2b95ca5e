use Rattle.std.proofs.Common.{sym, ◌∙◌}
use Rattle.bench_open.proofs.UnboundLemmas.{row-actions, row-guards}
use Rattle.bench_open.proofs.unbound.first_in_row.Goals as goal

pub returns-in-Some-first_lacking : goal.returns-in-Some-first_lacking
returns-in-Some-first_lacking c =
    row-guards c.args.laws.now c.args.table.now c.args.row.now c.in-Some-first_lacking.name.now
    (sym (rw (c.kinds-2.ensures, c.kinds.ensures.names) at c.in_default.ensures))
    (sym (rw (c.guards-2.ensures, c.guards.ensures.names, c.as_slice.ensures.value) at c.in-Some-first_lacking.ensures))

pub returns : goal.returns
returns c =
    rw (c.acts.ensures, c.actions.ensures.names, c.as_slice-2.ensures.value) at c.first_lacking-3.ensures
    ∙ row-actions c.args.laws.now c.args.table.now c.args.row.now
    (sym (rw (c.kinds-2.ensures, c.kinds.ensures.names) at c.in_default.ensures))
    (sym (rw (c.guards-2.ensures, c.guards.ensures.names, c.as_slice.ensures.value) at c.in_default-first_lacking.ensures))
