-- What a line was before a call, and what takes the call back.
use Rattle.std.specs.Prelude.{length, take}
use Rattle.dia_frame.specs.Framer.{FramerState}
use Rattle.bench_line.specs.declared.line.Before.{Before}
use Rattle.bench_line.specs.declared.line.FramerBefore.{FramerBefore}
use Rattle.bench_line.specs.declared.line.FramerBefore.TheVariants.{Same, Rest, Whole}
use Rattle.bench_line.specs.Line.{LineView}

-- a line before a call, by what the call does to its framer
abbrev pub before_of : FramerBefore → LineView → Before
before_of framer l = record {
  state = l.state;
  greeted = l.greeted;
  framer = framer;
  outbox = length l.outbox;
  sent = length l.sent;
}

-- the framer as it was before: the call left it, or put octets behind a rest of that length, or it was this
abbrev pub framer_before : FramerBefore → FramerState → FramerState
framer_before Same framer = framer
framer_before (Rest len) framer = record framer { rest = take len framer.rest }
framer_before (Whole before) framer = before.value

-- the line as it was before
abbrev pub restored : Before → LineView → LineView
restored before l = record l {
  state = before.state;
  greeted = before.greeted;
  framer = framer_before before.framer l.framer;
  outbox = take before.outbox l.outbox;
  sent = take before.sent l.sent;
}
