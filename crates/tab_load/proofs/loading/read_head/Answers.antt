use Rattle.std.proofs.lemmas.Result.{err_from_is_err_and}
use Rattle.tab_load.specs.Loading.{AnyNameWrong, HasFault, InCounts, InNames}
use Rattle.tab_load.proofs.RefusalLemmas.{refusal-weaker}
use Rattle.tab_load.proofs.BodyLemmas.{few-entries}
use Rattle.tab_load.proofs.loading.read_head.Goals as goal

pub returns-in_err-counts-clause-err : goal.returns-in_err-counts-clause-err
returns-in_err-counts-clause-err c =
    let p = err_from_is_err_and c.from_residual-in_err-counts.result c.from_residual-in_err-counts.ensures.1 in
    rw (p.1, p.2) (InCounts c.in_ok-format.format c.in_ok-format.ensures.ok c.in_err-counts.ensures.err)

pub returns-in_err-names-clause-err : goal.returns-in_err-names-clause-err
returns-in_err-names-clause-err c =
    let p = err_from_is_err_and c.from_residual-in_err-names.result c.from_residual-in_err-names.ensures.1 in
    rw (p.1, p.2) (refusal-weaker (AnyNameWrong c.args.book.now c.args.octets.now c.in_ok-counts.counts) (HasFault c.args.book.now c.args.octets.now) (λ at fault is. InNames c.in_ok-format.format c.in_ok-counts.counts c.in_ok-format.ensures.ok c.in_ok-counts.ensures.ok is) _ c.in_err-names.ensures.err)

pub returns-clause-few : goal.returns-clause-few
returns-clause-few c = few-entries c.in_ok-format.format c.args.octets.now c.in_ok-counts.counts c.in_ok-counts.ensures.ok
