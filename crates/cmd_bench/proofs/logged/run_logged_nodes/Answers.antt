use Rattle.std.proofs.Common.{inl, inr}
use Rattle.std.specs.Prelude.{replicate}
use Rattle.bench_item.specs.declared.limit.TheConstants.{MAX_SHARDS}
use Rattle.role_tables.specs.Roles.{all_laws}
use Rattle.cmd_bench.proofs.EndLemmas.{halt_ends, halt_run, halt_words}
use Rattle.cmd_bench.proofs.LoggedLemmas.{logged_met, logged_run, logged_words}
use Rattle.cmd_bench.proofs.logged.run_logged_nodes.Goals as goal

-- a script is run
pub returns-in-Ok-clause-run : goal.returns-in-Ok-clause-run
returns-in-Ok-clause-run g c =
    logged_run g.I.ByteSource.reads g.I.ByteSource.failures g.O.ByteSink.contents g.O.ByteSink.failures g.O.ByteSink.idle g.F.FileSink.files g.F.FileSink.failed (replicate MAX_SHARDS all_laws) c.args.cut
    c.in-Ok.ready.setups.items c.in-Ok.ready.script.items c.args.shown c.args.source.now c.read_all_nodes.new.source c.args.sink.now c.run_logged_ready.new.sink c.args.files.now c.run_logged_ready.new.files
    c.run_logged_ready.result c.run_logged_ready.ensures.run c.in-Ok.ensures.sound

pub returns-in-Ok-clause-as_asked : goal.returns-in-Ok-clause-as_asked
returns-in-Ok-clause-as_asked g c = λ fault.
    elim (logged_met g.O.ByteSink.contents g.O.ByteSink.failures g.O.ByteSink.idle g.F.FileSink.files g.F.FileSink.failed (replicate MAX_SHARDS all_laws) c.args.cut
    c.in-Ok.ready.setups.items c.in-Ok.ready.script.items c.args.shown c.args.sink.now c.run_logged_ready.new.sink c.args.files.now c.run_logged_ready.new.files
    c.run_logged_ready.result c.run_logged_ready.ensures.run fault) [
      | inl logs ↦ inl (record {
        setups = c.in-Ok.ready.setups.items;
        script = c.in-Ok.ready.script.items;
        inputs = c.in-Ok.ensures.ready;
        logs = logs;
      })
      | inr told ↦ inr (inr told)
    ]

pub returns-in-Ok-clause-words : goal.returns-in-Ok-clause-words
returns-in-Ok-clause-words g c =
    logged_words g.O.ByteSink.contents g.O.ByteSink.failures g.O.ByteSink.idle g.F.FileSink.files g.F.FileSink.failed (replicate MAX_SHARDS all_laws) c.args.cut
    c.in-Ok.ready.setups.items c.in-Ok.ready.script.items c.args.shown c.args.sink.now c.run_logged_ready.new.sink c.args.files.now c.run_logged_ready.new.files
    c.run_logged_ready.result c.run_logged_ready.ensures.run

-- or something stands in the way
pub returns-in-Err-clause-run : goal.returns-in-Err-clause-run
returns-in-Err-clause-run g c =
    inl (halt_run g.I.ByteSource.remaining g.I.ByteSource.reads g.I.ByteSource.failures g.O.ByteSink.contents g.O.ByteSink.failures g.O.ByteSink.idle c.args.source.now c.read_all_nodes.new.source c.args.sink.now
    c.tell_halt.new.sink c.in-Err.halt c.tell_halt.result c.tell_halt.ensures.told c.in-Err.ensures.halt)

pub returns-in-Err-clause-as_asked : goal.returns-in-Err-clause-as_asked
returns-in-Err-clause-as_asked g c = λ fault. inr
    (halt_ends g.I.ByteSource.remaining g.I.ByteSource.reads g.I.ByteSource.failures g.O.ByteSink.contents g.O.ByteSink.failures g.O.ByteSink.idle c.args.source.now c.read_all_nodes.new.source c.args.sink.now
    c.tell_halt.new.sink c.in-Err.halt c.tell_halt.result c.tell_halt.ensures.told c.in-Err.ensures.halt fault)

pub returns-in-Err-clause-words : goal.returns-in-Err-clause-words
returns-in-Err-clause-words g c =
    halt_words g.O.ByteSink.contents g.O.ByteSink.failures g.O.ByteSink.idle c.args.sink.now c.tell_halt.new.sink c.in-Err.halt c.tell_halt.result c.tell_halt.ensures.told
