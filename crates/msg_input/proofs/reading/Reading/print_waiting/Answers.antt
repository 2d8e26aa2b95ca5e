use Rattle.msg_input.proofs.ReadLemmas.{PrintsSome-more}
use Rattle.msg_input.proofs.reading.Reading.print_waiting.Goals as goal

-- one message more
pub loop-frame-preserved : goal.loop-frame-preserved
loop-frame-preserved g c = (
  c.loop-frame.invariant.0,
  c.loop-frame.invariant.1,
  PrintsSome-more (g.M.Printer.Says c.args.glossary.now c.args.line) _ _ _ _ _ _ _ _ _ c.loop-frame.invariant.2 c.in-Some.ensures.oldest (rw c.as_slice.ensures at c.in_ok-message.ensures.ok.2) (rw c.as_slice.ensures at c.in_ok-message.ensures.ok.3),
)
