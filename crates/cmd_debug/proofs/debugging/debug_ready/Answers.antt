use Rattle.cmd_debug.proofs.debugging.debug_ready.Goals as goal

-- the script is that which was read
pub returns-clause-as_asked : goal.returns-clause-as_asked
returns-clause-as_asked g c = λ unlike. rw c.deref.ensures.value at c.debug_on.ensures.as_asked unlike
