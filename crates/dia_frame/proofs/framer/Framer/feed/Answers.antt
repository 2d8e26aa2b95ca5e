use Rattle.dia_frame.proofs.FramerLemmas.{holds_next}
use Rattle.dia_frame.proofs.framer.Framer.feed.Goals as goal

pub returns-clause-joined : goal.returns-clause-joined
returns-clause-joined c = holds_next c.args.self.now _ c.args.piece.now c.take.result c.take.ensures.feeds
