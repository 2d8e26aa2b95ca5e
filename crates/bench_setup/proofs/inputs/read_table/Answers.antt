use Rattle.bench_setup.proofs.HaltLemmas.{shipped_refused}
use Rattle.bench_setup.proofs.inputs.read_table.Goals as goal

-- a shipped table with a fault
pub returns-in_default-clause-halt : goal.returns-in_default-clause-halt
returns-in_default-clause-halt g c =
    shipped_refused g.I.ByteSource.remaining g.I.ByteSource.reads g.I.ByteSource.failures c.args.source.now c.args.shipped.now c.as_bytes.result.now c.table_of.result
    c.as_bytes.ensures.value c.requires.shipped c.table_of.ensures.halt
