use Rattle.bench_world.proofs.BookLemmas.{same-books}
use Rattle.test_debug.proofs.sessions.opened.Goals as goal

-- the bench has the laws of its registries
pub returns-in-Ok : goal.returns-in-Ok
returns-in-Ok g c = record {
  same = rw (c.in-Ok.ensures.ok.1) (same-books c.in_ok-config.config _ c.in-Ok.ensures.ok.0);
}
