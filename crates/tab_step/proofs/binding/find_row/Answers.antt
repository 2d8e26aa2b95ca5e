use Rattle.std.proofs.lemmas.Result.{err_from_is_err_and}
use Rattle.tab_step.proofs.BindLemmas.{lacking_in-kind, lacking_in-guards}
use Rattle.tab_step.proofs.binding.find_row.Goals as goal

pub returns-in_err-kind-clause-err : goal.returns-in_err-kind-clause-err
returns-in_err-kind-clause-err c =
    let p = err_from_is_err_and c.from_residual.result c.from_residual.ensures.1 in
    rw (p.1, p.2, c.in_err-kind.ensures.name, c.kinds.ensures.names)
    (lacking_in-kind c.args.book.now c.args.table.now c.args.row.now (rw (c.kinds-2.ensures, c.kinds.ensures.names) at c.in_err-kind.ensures.none))

pub returns-in_err-guards-clause-err : goal.returns-in_err-guards-clause-err
returns-in_err-guards-clause-err c =
    let p = err_from_is_err_and c.from_residual-in_err-guards.result c.from_residual-in_err-guards.ensures.1 in
    rw (p.1, p.2)
    (lacking_in-guards c.args.book.now c.args.table.now c.args.row.now c.in_ok-kind.kind _ (rw (c.kinds-2.ensures, c.kinds.ensures.names) at c.in_ok-kind.ensures.ok) (rw (c.guards-2.ensures, c.guards.ensures.names, c.as_slice.ensures.value) at c.in_err-guards.ensures.err))

pub returns-clause-ok : goal.returns-clause-ok
returns-clause-ok c =
    record {
      kind = rw (c.kinds-2.ensures, c.kinds.ensures.names) at c.in_ok-kind.ensures.ok;
      guards = rw (c.guards-2.ensures, c.guards.ensures.names, c.as_slice.ensures.value) at c.in_ok-guards.ensures.ok;
      actions = rw (c.acts.ensures, c.actions.ensures.names, c.as_slice-2.ensures.value) at c.in_ok-actions.ensures.ok;
    }
