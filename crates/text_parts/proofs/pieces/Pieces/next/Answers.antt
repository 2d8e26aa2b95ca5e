use Rattle.std.proofs.Common.{arith}
use Rattle.std.proofs.lemmas.List.{take_rest}
use Rattle.text_parts.proofs.PiecesLemmas.{pieces_from-past, first-piece}
use Rattle.text_parts.proofs.pieces.Pieces.next.Goals as goal

pub returns-then-self-clause-piece : goal.returns-then-self-clause-piece
returns-then-self-clause-piece c = pieces_from-past _ _ _ (omega arith)

pub returns-clause-piece : goal.returns-clause-piece
returns-clause-piece c =
    let self = c.args.self.now in
    let rest = take_rest self.text.now self.from in
    let taken = first-piece self.separator self.from c.unwrap_or-len.result self.text.now _ c.if-self.false rest (rw (← c.separator_in.ensures) c.unwrap_or-len.ensures) in
    record { left = taken.0; from = taken.1 }
