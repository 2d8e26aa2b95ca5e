use Rattle.tab_load.specs.Loading.{lists, CutWrong, HasFault, InBody, entry_count}
use Rattle.tab_load.proofs.RefusalLemmas.{err-weaker}
use Rattle.tab_load.proofs.loading.read_rest.Goals as goal

pub returns-clause-err : goal.returns-clause-err
returns-clause-err c =
    let head = c.args.head.now in
    err-weaker (CutWrong head.format c.args.octets.now head.names.actions.end (entry_count head.counts)) (HasFault c.args.book.now c.args.octets.now) (λ at fault is. InBody head.format head.counts (lists head.names) c.requires.head is) c.read_body.result c.read_body.ensures.err
