use Rattle.std.proofs.Common.{inl}
use Rattle.cmd_bench.specs.Told.{opened_with}
use Rattle.cmd_bench.proofs.EndLemmas.{halt_met, halt_run, halt_words, run_run, run_words}
use Rattle.cmd_bench.proofs.running.run_watched.Goals as goal

-- a script is run
pub returns-in-Ok-clause-run : goal.returns-in-Ok-clause-run
returns-in-Ok-clause-run g c =
    run_run g.I.ByteSource.reads g.I.ByteSource.failures g.O.ByteSink.contents g.O.ByteSink.failures g.O.ByteSink.idle (opened_with c.in-Ok.ready.setup.bench) c.in-Ok.ready.script.items c.args.shown
    c.args.source.now c.read_all.new.source c.args.sink.now c.run_ready.new.sink c.run_ready.result c.run_ready.ensures.run c.in-Ok.ensures.sound

pub returns-in-Ok-clause-as_asked : goal.returns-in-Ok-clause-as_asked
returns-in-Ok-clause-as_asked g c = λ fault. inl (record {
  setup = c.in-Ok.ready.setup;
  script = c.in-Ok.ready.script.items;
  inputs = c.in-Ok.ensures.ready;
  run = c.run_ready.ensures.run;
})

pub returns-in-Ok-clause-words : goal.returns-in-Ok-clause-words
returns-in-Ok-clause-words g c =
    run_words g.O.ByteSink.contents g.O.ByteSink.failures g.O.ByteSink.idle (opened_with c.in-Ok.ready.setup.bench) c.in-Ok.ready.script.items c.args.shown c.args.sink.now c.run_ready.new.sink
    c.run_ready.result c.run_ready.ensures.run

-- or something stands in the way
pub returns-in-Err-clause-run : goal.returns-in-Err-clause-run
returns-in-Err-clause-run g c =
    halt_run g.I.ByteSource.remaining g.I.ByteSource.reads g.I.ByteSource.failures g.O.ByteSink.contents g.O.ByteSink.failures g.O.ByteSink.idle c.args.source.now c.read_all.new.source c.args.sink.now c.tell_halt.new.sink
    c.in-Err.halt c.tell_halt.result c.tell_halt.ensures.told c.in-Err.ensures.halt

pub returns-in-Err-clause-as_asked : goal.returns-in-Err-clause-as_asked
returns-in-Err-clause-as_asked g c =
    halt_met g.I.ByteSource.remaining g.I.ByteSource.reads g.I.ByteSource.failures g.O.ByteSink.contents g.O.ByteSink.failures g.O.ByteSink.idle c.args.shown c.args.source.now c.read_all.new.source c.args.sink.now
    c.tell_halt.new.sink c.in-Err.halt c.tell_halt.result c.tell_halt.ensures.told c.in-Err.ensures.halt

pub returns-in-Err-clause-words : goal.returns-in-Err-clause-words
returns-in-Err-clause-words g c =
    halt_words g.O.ByteSink.contents g.O.ByteSink.failures g.O.ByteSink.idle c.args.sink.now c.tell_halt.new.sink c.in-Err.halt c.tell_halt.result c.tell_halt.ensures.told
