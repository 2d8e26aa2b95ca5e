-- The events that are left as those of a text are taken off.
use Rattle.std.specs.Prelude.{List}
use Rattle.tab_law.specs.Books.{Laws}
use Rattle.tab_step.specs.declared.machine.Event.{Event}
use Rattle.text_parts.specs.Left.{lines_left}
use Rattle.event_text.specs.declared.events.Events.{Events}
use Rattle.event_text.specs.Events.{events_in}

-- those of the lines that are left
abbrev pub events_left : Laws → Events → List Event
events_left laws taken = events_in laws (lines_left taken.lines)
