use Rattle.std.proofs.Common.{rules}
use Rattle.dia_dict.proofs.table.Table.add.Goals as goal

pub returns-in_err-name-clause-fault : goal.returns-in_err-name-clause-fault
returns-in_err-name-clause-fault c = search rules

pub returns-in_err-append-clause-fault : goal.returns-in_err-append-clause-fault
returns-in_err-append-clause-fault c = search rules

pub returns-clause-free : goal.returns-clause-free
returns-clause-free c = search rules
