use Rattle.std.proofs.Common.{arith, inl}
use Rattle.tab_load.proofs.body.read_body.Goals as goal

pub returns-then-octets-begin-clause-err : goal.returns-then-octets-begin-clause-err
returns-then-octets-begin-clause-err c =
    let short = rw c.width_of-width.ensures at c.if-octets-begin.true in
    rw c.fault_at-cut.ensures.code (c.fault_at-cut.ensures.at, inl (omega (arith, short, c.requires.inside)))
