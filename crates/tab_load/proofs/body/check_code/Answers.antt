use Rattle.std.proofs.lemmas.Result.{err_from_is_err_and}
use Rattle.tab_load.specs.Code.{instructions_of}
use Rattle.tab_load.specs.Loading.{AtEnd, AtGuard, AtEntry}
use Rattle.tab_load.proofs.BodyLemmas.{whole-code}
use Rattle.tab_load.proofs.body.check_code.Goals as goal

pub returns-in_err-check_end-clause-err : goal.returns-in_err-check_end-clause-err
returns-in_err-check_end-clause-err c =
    let p = err_from_is_err_and c.from_residual-in_err-check_end.result c.from_residual-in_err-check_end.ensures.1 in
    let code = whole-code c.args.format c.args.counts.now c.args.code.now c.in_ok-scan.scan c.in_ok-scan.ensures.ok c.in_ok-scan.ensures.end in
    rw (p.1, p.2) (AtEnd (instructions_of c.in_ok-scan.scan.steps.items) code c.in_err-check_end.ensures.err)

pub returns-in_err-check_guards-clause-err : goal.returns-in_err-check_guards-clause-err
returns-in_err-check_guards-clause-err c =
    let p = err_from_is_err_and c.from_residual-in_err-check_guards.result c.from_residual-in_err-check_guards.ensures.1 in
    let code = whole-code c.args.format c.args.counts.now c.args.code.now c.in_ok-scan.scan c.in_ok-scan.ensures.ok c.in_ok-scan.ensures.end in
    rw (p.1, p.2) (AtGuard (instructions_of c.in_ok-scan.scan.steps.items) code c.in_ok-check_end.ensures.ok c.in_err-check_guards.ensures.err)

pub returns-in_err-check_entries-clause-err : goal.returns-in_err-check_entries-clause-err
returns-in_err-check_entries-clause-err c =
    let p = err_from_is_err_and c.from_residual-in_err-check_entries.result c.from_residual-in_err-check_entries.ensures.1 in
    let code = whole-code c.args.format c.args.counts.now c.args.code.now c.in_ok-scan.scan c.in_ok-scan.ensures.ok c.in_ok-scan.ensures.end in
    rw (p.1, p.2) (AtEntry (instructions_of c.in_ok-scan.scan.steps.items) code c.in_ok-check_end.ensures.ok c.in_ok-check_guards.ensures.ok c.in_err-check_entries.ensures.err)
