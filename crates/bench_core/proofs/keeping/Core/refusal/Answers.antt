use Rattle.bench_core.proofs.keeping.Core.refusal.Goals as goal

pub returns-in-Came : goal.returns-in-Came
returns-in-Came c = rw (c.in-Came.is) (c.came_fault.ensures c.in-Came.piece)
