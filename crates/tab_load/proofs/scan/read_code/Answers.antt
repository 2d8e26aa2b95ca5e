use Rattle.std.proofs.lemmas.Result.{err_from_is_err_and}
use Rattle.tab_load.specs.Code.{ScanWrong, IsOnly}
use Rattle.tab_load.proofs.OnlyLemmas.{scan-only}
use Rattle.tab_load.proofs.RefusalLemmas.{refusal-weaker}
use Rattle.tab_load.proofs.scan.read_code.Goals as goal

pub returns-in_err-read_next-clause-only : goal.returns-in_err-read_next-clause-only
returns-in_err-read_next-clause-only c =
    let p = err_from_is_err_and c.from_residual.result c.from_residual.ensures.1 in
    let wrong = ScanWrong c.args.format c.args.counts.now c.args.code.now c.args.begin c.args.whole in
    rw (p.1, p.2)
    (refusal-weaker wrong (IsOnly wrong) (scan-only c.args.format c.args.counts.now c.args.code.now c.args.begin c.args.whole) _ c.in_err-read_next.ensures.err)
