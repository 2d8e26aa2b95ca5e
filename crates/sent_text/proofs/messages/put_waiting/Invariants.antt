use Rattle.std.proofs.Common.{length}
use Rattle.sent_text.proofs.SentLemmas.{ToldSome}
use Rattle.sent_text.proofs.messages.put_waiting.Given as goal

-- the messages that came so far were put
abbrev pub invariant-messages : goal.invariant-messages
invariant-messages l = ToldSome l.initial.framer.waiting l.framer.waiting l.number l.place l.initial.out.items l.out.items

-- each turn takes one
abbrev pub decreases-messages : goal.decreases-messages
decreases-messages l = length l.framer.waiting
