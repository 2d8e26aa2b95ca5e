use Rattle.bench_world.proofs.BookLemmas.{fails, may-lack, opens, same-books}
use Rattle.bench_world.proofs.world.World.new.Goals as goal

pub invariant_of-result : goal.invariant_of-result
invariant_of-result g c = record {
  laws = rw (c.in-Ok.ensures.ok.1, ← c.deref.ensures.value) (same-books c.args.config _ c.in-Ok.ensures.ok.0);
}

pub returns-in-Ok-new-clause-ok : goal.returns-in-Ok-new-clause-ok
returns-in-Ok-new-clause-ok g c = opens _ _ _ c.args.config c.in-Ok.core c.deref.ensures.value c.in-Ok.ensures.ok.0 c.in-Ok.ensures.ok.1

pub returns-in-Err-clause-fault : goal.returns-in-Err-clause-fault
returns-in-Err-clause-fault g c = fails _ _ _ c.args.config c.in-Err.error c.deref.ensures.value c.in-Err.ensures.fault

pub returns-in-Err-new-clause-fault : goal.returns-in-Err-new-clause-fault
returns-in-Err-new-clause-fault g c = may-lack _ _ _ c.args.config c.deref.ensures.value c.in-Ok.ensures.ok.0
