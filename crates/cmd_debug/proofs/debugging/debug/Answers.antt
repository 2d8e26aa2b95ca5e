use Rattle.std.proofs.Common.{inl}
use Rattle.cmd_bench.proofs.EndLemmas.{halt_run, halt_words}
use Rattle.cmd_debug.proofs.MetLemmas.{halt_met, run_later}
use Rattle.cmd_debug.proofs.debugging.debug.Goals as goal

-- commands are done
pub returns-in-Ok-clause-run : goal.returns-in-Ok-clause-run
returns-in-Ok-clause-run g c =
    run_later g.I.ByteSource.reads g.I.ByteSource.failures g.O.ByteSink.failures g.O.ByteSink.idle c.args.source.now c.read_all.new.source c.debug_ready.new.source c.args.sink.now c.debug_ready.new.sink c.debug_ready.result
    c.read_all.ensures.made c.in-Ok.ensures.sound c.debug_ready.ensures.run

pub returns-in-Ok-clause-as_asked : goal.returns-in-Ok-clause-as_asked
returns-in-Ok-clause-as_asked g c = λ fault. inl (record {
  setup = c.in-Ok.ready.setup;
  script = c.in-Ok.ready.script.items;
  after_script = c.read_all.new.source;
  inputs = c.in-Ok.ensures.ready;
  commands = c.debug_ready.ensures.as_asked fault;
})

-- or something stands in the way
pub returns-in-Err-clause-run : goal.returns-in-Err-clause-run
returns-in-Err-clause-run g c =
    halt_run g.I.ByteSource.remaining g.I.ByteSource.reads g.I.ByteSource.failures g.O.ByteSink.contents g.O.ByteSink.failures g.O.ByteSink.idle c.args.source.now c.read_all.new.source c.args.sink.now c.tell_halt.new.sink
    c.in-Err.halt c.tell_halt.result c.tell_halt.ensures.told c.in-Err.ensures.halt

pub returns-in-Err-clause-as_asked : goal.returns-in-Err-clause-as_asked
returns-in-Err-clause-as_asked g c =
    halt_met g.I.ByteSource.remaining g.I.ByteSource.reads g.I.ByteSource.failures g.O.ByteSink.contents g.O.ByteSink.failures g.O.ByteSink.idle _ c.args.source.now c.read_all.new.source c.args.sink.now
    c.tell_halt.new.sink c.in-Err.halt c.tell_halt.result c.tell_halt.ensures.told c.in-Err.ensures.halt

pub returns-in-Err-clause-words : goal.returns-in-Err-clause-words
returns-in-Err-clause-words g c =
    halt_words g.O.ByteSink.contents g.O.ByteSink.failures g.O.ByteSink.idle c.args.sink.now c.tell_halt.new.sink c.in-Err.halt c.tell_halt.result c.tell_halt.ensures.told
