use Rattle.bench_setup.proofs.HaltLemmas.{later}
use Rattle.cmd_debug.proofs.debugging.read_all.Goals as goal

-- the script is not read whole behind the rest
pub returns-in-Err-clause-halt : goal.returns-in-Err-clause-halt
returns-in-Err-clause-halt g c =
    later g.I.ByteSource.remaining g.I.ByteSource.reads g.I.ByteSource.failures c.args.source.now c.read_first.new.source c.read_script_of.new.source c.in-Err.halt
    c.in_ok-setup.ensures.made c.in_ok-setup.ensures.sound c.in-Err.ensures.halt
