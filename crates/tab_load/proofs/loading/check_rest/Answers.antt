use Rattle.std.proofs.Common.{◌≡◌, ◌+◌, ◌-◌, refl, arith, length}
use Rattle.std.proofs.lemmas.Result.{err_from_is_err_and}
use Rattle.tab_load.specs.Loading.{lists, CodeWrong, HasFault, InCode, BehindCode, code_begin, code_in}
use Rattle.tab_load.proofs.RefusalLemmas.{refusal-weaker}
use Rattle.tab_load.proofs.loading.check_rest.Goals as goal

pub returns-in_err-check_code-clause-err : goal.returns-in_err-check_code-clause-err
returns-in_err-check_code-clause-err c =
    let p = err_from_is_err_and c.from_residual.result c.from_residual.ensures.1 in
    let head = c.args.head.now in
    let size = c.args.body.now.size in
    let begin = code_begin head.format head.counts (lists head.names) in
    let same : (begin + size) - begin ≡ size = omega arith in
    let wrong = rw (c.width_of-width.ensures, c.as_slice-entries.ensures.value, same) at c.in_err-check_code.ensures.err in
    rw (p.1, p.2)
    (refusal-weaker (CodeWrong head.format head.counts (code_in c.args.octets.now begin size) c.args.body.now.entries.items begin head.names.actions.end (length c.args.octets.now)) (HasFault c.args.book.now c.args.octets.now) (λ at fault is. InCode head.format head.counts (lists head.names) c.args.body.now.entries.items size c.requires.head c.requires.body is) _ wrong)

pub returns-then-end-whole-clause-err : goal.returns-then-end-whole-clause-err
returns-then-end-whole-clause-err c =
    let head = c.args.head.now in
    let size = c.args.body.now.size in
    let begin = code_begin head.format head.counts (lists head.names) in
    let same : (begin + size) - begin ≡ size = omega arith in
    let sound = rw (c.width_of-width.ensures, c.as_slice-entries.ensures.value, same) at c.in_ok-check_code.ensures.ok in
    let inside = rw c.width_of-width.ensures at c.if-end-whole.true in
    rw c.width_of-width.ensures (BehindCode head.format head.counts (lists head.names) c.args.body.now.entries.items size sound.0 c.requires.head c.requires.body sound.1 inside refl refl)
