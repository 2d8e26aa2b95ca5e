use Rattle.cmd_debug.proofs.opening.open.Goals as goal

-- as many registries as shards
pub returns : goal.returns
returns c = rw c.count_of-count.ensures at c.with_calls.ensures
