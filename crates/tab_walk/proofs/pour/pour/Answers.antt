use Rattle.std.proofs.Common.{arith}
use Rattle.event_text.specs.Events.{events_of}
use Rattle.event_text.specs.Left.{events_left}
use Rattle.tab_walk.specs.Walks.{StepBy, told_of}
use Rattle.tab_walk.proofs.PourLemmas.{IsPoured-halted, Pours-all, Pours-put, Pours-start, Pours-step}
use Rattle.tab_walk.proofs.pour.pour.Goals as goal

pub loop-event-init : goal.loop-event-init
loop-event-init g c = record {
  so_far = rw c.new-out.ensures.items (Pours-start g.O.ByteSink.contents g.O.ByteSink.failures g.O.ByteSink.idle _ _ c.args.start.now _ _ c.args.sink.now (c.new-left.ensures c.args.by.registry.now.book) c.requires.idle);
  row = omega arith;
}

-- one event more is stepped, and what waits is written out or goes on waiting
pub loop-event-preserved : goal.loop-event-preserved
loop-event-preserved g c =
    let laws = c.args.by.registry.now.book in
    let joined = rw c.laws.ensures at c.in-Some.ensures in
    let stepped = Pours-step g.O.ByteSink.contents g.O.ByteSink.failures g.O.ByteSink.idle (StepBy laws c.args.by.rules) (told_of c.args.by.why laws c.args.by.rules) c.args.start.now (events_of laws c.args.events.now) (events_left laws c.loop-event.left) (events_left laws c.next.new.self) c.args.sink.now c.loop-event.sink
    c.loop-event.out.items c.put_whole.new.out.items c.loop-event.machine c.in-Some.event c.step_by.new.room c.loop-event.invariant.so_far joined c.step_by.ensures c.in-Ok.ensures.put in
    record {
      so_far = Pours-put g.O.ByteSink.contents g.O.ByteSink.failures g.O.ByteSink.idle (StepBy laws c.args.by.rules) (told_of c.args.by.why laws c.args.by.rules) c.args.start.now (events_of laws c.args.events.now) (events_left laws c.next.new.self) c.args.sink.now c.loop-event.sink c.write_enough.new.sink
          c.put_whole.new.out.items c.write_enough.new.out.items c.step_by.new.room.after stepped c.in_ok-write_enough.ensures.put;
      row = (let row = c.write_enough.ensures.row in let before = c.loop-event.invariant.row in omega arith);
    }

-- memory ran out
pub returns-in-Err-clause-poured : goal.returns-in-Err-clause-poured
returns-in-Err-clause-poured g c =
    IsPoured-halted g.O.ByteSink.contents g.O.ByteSink.failures g.O.ByteSink.idle _ _ c.args.start.now _ _ c.args.sink.now c.loop-event.sink c.write_rest.new.sink c.loop-event.out.items c.loop-event.machine c.write_rest.result
    c.loop-event.invariant.so_far (rw (c.deref.ensures.value, c.in-Err.ensures.err) at c.write_rest.ensures.halted)

-- no event is left
pub returns-clause-poured : goal.returns-clause-poured
returns-clause-poured g c =
    Pours-all g.O.ByteSink.contents g.O.ByteSink.failures g.O.ByteSink.idle _ _ c.args.start.now _ _ c.args.sink.now c.loop-event.sink c.write_whole.new.sink c.loop-event.out.items c.loop-event.machine
    c.loop-event.invariant.so_far (rw c.laws.ensures at c.in_default.ensures) (rw c.deref-2.ensures.value at c.in_ok-write_whole.ensures.whole)
