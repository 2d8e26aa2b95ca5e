use Rattle.std.proofs.Common.{◌≡◌, rules}
use Rattle.tab_print.specs.Printed.{printed}
use Rattle.tab_print.proofs.BackLemmas.{read-back}
use Rattle.tab_print.proofs.printing.print.Goals as goal

pub returns-clause-read_back : goal.returns-clause-read_back
unfolding printed
returns-clause-read_back c = λ within.
    let table = c.args.table.now in
    let whole : c.put_rows.new.out.items ≡ printed table = search rules in
    rw whole (read-back table c.put_rows.ensures.numbered (rw whole at within))
