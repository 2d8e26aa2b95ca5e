use Rattle.std.proofs.Common.{◌≤◌, length, max}
use Rattle.event_text.specs.Events.{events_of}
use Rattle.event_text.specs.Left.{events_left}
use Rattle.tab_walk.specs.Walks.{StepBy, told_of}
use Rattle.tab_walk.proofs.PourLemmas.{Pours}
use Rattle.tab_walk.proofs.pour.pour.Given as goal

-- the events so far are stepped, and their text was written out but for what waits
abbrev pub invariant-loop-event : goal.invariant-loop-event
invariant-loop-event g l = record {
  so_far : Pours g.O.ByteSink.contents g.O.ByteSink.failures g.O.ByteSink.idle (StepBy l.by.registry.now.book l.by.rules) (told_of l.by.why l.by.registry.now.book l.by.rules) l.start (events_of l.by.registry.now.book l.events) (events_left l.by.registry.now.book l.left) l.initial.sink l.sink l.out.items l.machine;
  row : g.O.ByteSink.most_idle l.sink ≤ max (g.O.ByteSink.most_idle l.initial.sink) 1048576;
}

-- each turn takes an event
abbrev pub decreases-loop-event : goal.decreases-loop-event
decreases-loop-event g l = length (events_left l.by.registry.now.book l.left)
