use Rattle.cmd_live.proofs.nodes.sockets_of.Goals as goal

-- it listens at what is no address
pub returns-in-Unknown-clause-refused : goal.returns-in-Unknown-clause-refused
returns-in-Unknown-clause-refused g c =
    let there = rw c.as_ref.ensures.value at (c.listening_at.ensures c.in-Unknown.is) in (there.0, there.1, c.in_ok-no_address-in-Unknown.ensures)
