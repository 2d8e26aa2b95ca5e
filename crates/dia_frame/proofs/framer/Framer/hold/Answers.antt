use Rattle.std.proofs.Common.{◌∙◌, sym}
use Rattle.dia_frame.proofs.HoldLemmas.{held-ok, held-err, held-memory}
use Rattle.dia_frame.proofs.framer.Framer.hold.Goals as goal

pub returns-in-Ok-clause-ok : goal.returns-in-Ok-clause-ok
returns-in-Ok-clause-ok c = held-ok c.args.self.now c.feed.new.self c.args.piece.now c.in-Ok.field-0 (sym c.can_hold.ensures ∙ c.if-not-can_hold.false) c.in-Ok.ensures.feeds

pub returns-in-Err-clause-err : goal.returns-in-Err-clause-err
returns-in-Err-clause-err c = held-err c.args.self.now c.feed.new.self c.args.piece.now c.in-Err.field-0 (sym c.can_hold.ensures ∙ c.if-not-can_hold.false) c.in-Err.ensures.feeds

pub returns-in-Err-clause-memory : goal.returns-in-Err-clause-memory
returns-in-Err-clause-memory c = held-memory c.args.self.now c.feed.new.self c.args.piece.now c.feed.result c.in-Err.field-0 (sym c.can_hold.ensures ∙ c.if-not-can_hold.false) c.in-Err.is c.in-Err.ensures.feeds c.feed.ensures.memory
