use Rattle.std.proofs.Common.{true}
use Rattle.std.proofs.lemmas.Result.{err_from_is_err_and}
use Rattle.tab_load.specs.Names.{NamesWrong}
use Rattle.tab_load.specs.Loading.{listed, AnyNameWrong, AtKind, AtGuard, AtAction}
use Rattle.tab_load.proofs.RefusalLemmas.{refusal-weaker}
use Rattle.tab_load.proofs.names.read_image_names.Goals as goal

pub returns-in_err-kinds-clause-err : goal.returns-in_err-kinds-clause-err
returns-in_err-kinds-clause-err c =
    let p = err_from_is_err_and c.from_residual-in_err-kinds.result c.from_residual-in_err-kinds.ensures.1 in
    let states = rw c.kinds.ensures at c.in_ok-states.ensures.ok in
    let wrong = rw c.kinds-2.ensures at c.in_err-kinds.ensures.err in
    rw (p.1, p.2) (refusal-weaker (NamesWrong true c.args.book.now.kinds c.args.octets.now c.in_ok-states.states.end c.args.counts.now.kinds) (AnyNameWrong c.args.book.now c.args.octets.now c.args.counts.now) (λ at fault is. AtKind (listed c.in_ok-states.states) states is) _ wrong)

pub returns-in_err-guards-clause-err : goal.returns-in_err-guards-clause-err
returns-in_err-guards-clause-err c =
    let p = err_from_is_err_and c.from_residual-in_err-guards.result c.from_residual-in_err-guards.ensures.1 in
    let states = rw c.kinds.ensures at c.in_ok-states.ensures.ok in
    let kinds = rw c.kinds-2.ensures at c.in_ok-kinds.ensures.ok in
    let wrong = rw c.guards.ensures at c.in_err-guards.ensures.err in
    rw (p.1, p.2) (refusal-weaker (NamesWrong true c.args.book.now.guards c.args.octets.now c.in_ok-kinds.kinds.end c.args.counts.now.guards) (AnyNameWrong c.args.book.now c.args.octets.now c.args.counts.now) (λ at fault is. AtGuard (listed c.in_ok-states.states) (listed c.in_ok-kinds.kinds) states kinds is) _ wrong)

pub returns-in_err-actions-clause-err : goal.returns-in_err-actions-clause-err
returns-in_err-actions-clause-err c =
    let p = err_from_is_err_and c.from_residual-in_err-actions.result c.from_residual-in_err-actions.ensures.1 in
    let states = rw c.kinds.ensures at c.in_ok-states.ensures.ok in
    let kinds = rw c.kinds-2.ensures at c.in_ok-kinds.ensures.ok in
    let guards = rw c.guards.ensures at c.in_ok-guards.ensures.ok in
    let wrong = rw c.acts.ensures at c.in_err-actions.ensures.err in
    rw (p.1, p.2) (refusal-weaker (NamesWrong true c.args.book.now.acts c.args.octets.now c.in_ok-guards.guards.end c.args.counts.now.actions) (AnyNameWrong c.args.book.now c.args.octets.now c.args.counts.now) (λ at fault is. AtAction (listed c.in_ok-states.states) (listed c.in_ok-kinds.kinds) (listed c.in_ok-guards.guards) states kinds guards is) _ wrong)

pub returns-clause-ok : goal.returns-clause-ok
returns-clause-ok c = record {
  states = rw c.kinds.ensures at c.in_ok-states.ensures.ok;
  kinds = rw c.kinds-2.ensures at c.in_ok-kinds.ensures.ok;
  guards = rw c.guards.ensures at c.in_ok-guards.ensures.ok;
  actions = rw c.acts.ensures at c.in_ok-actions.ensures.ok;
}
