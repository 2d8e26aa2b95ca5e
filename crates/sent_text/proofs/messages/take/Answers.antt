use Rattle.std.proofs.Common.{subst}
use Rattle.std.specs.Prelude.{Ok, Err}
use Rattle.dia_frame.specs.Framer.{Feeds, FramerState}
use Rattle.dia_frame.specs.declared.fault.FeedError.{FeedError}
use Rattle.sent_text.proofs.SentLemmas.{fault_framed, fed_framed}
use Rattle.sent_text.proofs.messages.take.Goals as goal

-- the messages that came wait
pub returns-in-Ok : goal.returns-in-Ok
returns-in-Ok c =
    fed_framed c.args.octets.now c.feed.new.self c.in-Ok.field-0
    (subst (λ (s : FramerState). Feeds s c.args.octets.now (Ok c.in-Ok.field-0) c.feed.new.self) c.requires c.in-Ok.ensures.feeds)

-- so they do before a fault
pub returns-in-Err-Fault : goal.returns-in-Err-Fault
returns-in-Err-Fault c =
    fault_framed c.args.octets.now c.feed.new.self c.in-Err-Fault.field-0-0
    (subst (λ (e : FeedError). Feeds _ c.args.octets.now (Err e) c.feed.new.self) c.in-Err-Fault.field-0-is
    (subst (λ (s : FramerState). Feeds s c.args.octets.now (Err c.in-Err-Fault.field-0) c.feed.new.self) c.requires c.in-Err-Fault.ensures.feeds))
