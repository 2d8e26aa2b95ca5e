use Rattle.std.proofs.Common.{rules}
use Rattle.tab_call.proofs.registry.Registry.add_guard.Goals as goal

pub returns-in-Err-clause-fault : goal.returns-in-Err-clause-fault
returns-in-Err-clause-fault c = search rules

pub add_guard_law-requires : goal.add_guard_law-requires
add_guard_law-requires c = search rules

pub returns-in-Err-add_guard_law-clause-fault : goal.returns-in-Err-add_guard_law-clause-fault
returns-in-Err-add_guard_law-clause-fault c = search rules

pub returns-clause-free : goal.returns-clause-free
returns-clause-free c = search rules
