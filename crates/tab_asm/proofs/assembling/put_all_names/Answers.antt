use Rattle.tab_asm.proofs.NameLemmas.{short-table}
use Rattle.tab_asm.proofs.assembling.put_all_names.Goals as goal

pub put_names-requires : goal.put_names-requires
put_names-requires c = rw c.states.ensures.names (short-table c.args.table.now c.rows-rows.ensures.numbered).states

pub put_names-requires-2 : goal.put_names-requires-2
put_names-requires-2 c = rw c.kinds.ensures.names (short-table c.args.table.now c.rows-rows.ensures.numbered).kinds

pub put_names-requires-3 : goal.put_names-requires-3
put_names-requires-3 c = rw c.guards.ensures.names (short-table c.args.table.now c.rows-rows.ensures.numbered).guards

pub put_names-requires-4 : goal.put_names-requires-4
put_names-requires-4 c = rw c.actions.ensures.names (short-table c.args.table.now c.rows-rows.ensures.numbered).actions
