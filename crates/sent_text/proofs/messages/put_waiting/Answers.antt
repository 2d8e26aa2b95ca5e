use Rattle.std.proofs.Common.{◌+◌, ◌∙◌, ℕ, ap}
use Rattle.dia_frame.specs.Framer.{FramerState}
use Rattle.sent_text.proofs.SentLemmas.{told_next}
use Rattle.sent_text.proofs.messages.put_waiting.Goals as goal

-- one message more was put
pub messages-preserved : goal.messages-preserved
messages-preserved c =
    told_next c.args.framer.now.waiting c.messages.framer.waiting c.next_frame.new.self.waiting c.messages.number c.messages.place c.in_ok-number.number
    c.in_ok-place.place c.args.out.now.items c.messages.out.items c.explain.new.out.items c.in-Some.message c.as_slice.result.now c.args.glossary.now
    c.in_ok-explain.field-0 c.messages.invariant (ap (λ (s : FramerState). s.waiting) c.in-Some.ensures.oldest) c.as_slice.ensures
    c.requires.names c.in_ok-number.ensures
    (c.in_ok-place.ensures ∙ ap (λ (n : ℕ). c.messages.place + n) c.len.ensures) c.in_ok-explain.ensures
