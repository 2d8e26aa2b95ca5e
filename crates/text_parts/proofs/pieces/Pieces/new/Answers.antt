use Rattle.text_parts.proofs.PiecesLemmas.{pieces_from-start}
use Rattle.text_parts.proofs.pieces.Pieces.new.Goals as goal

pub returns-clause-left : goal.returns-clause-left
returns-clause-left c = pieces_from-start c.args.separator c.args.text.now
