use Rattle.std.proofs.Common.{◌∙◌, sym, ap, cond, Some, None}
use Rattle.step_text.specs.Guess.{piece_of}
use Rattle.step_text.specs.Shown.{octets_in}
use Rattle.step_text.proofs.PairLemmas.{pairs_are}
use Rattle.step_text.proofs.guess.piece_of.Goals as goal

pub returns-then-are_pairs : goal.returns-then-are_pairs
returns-then-are_pairs c =
    sym (ap piece_of c.in-Some.ensures.piece.left ∙ pairs_are c.in-Some.word.now ∙ ap (λ b. cond b (Some (octets_in c.in-Some.word.now)) None) (sym c.are_pairs.ensures ∙ c.if-are_pairs.true))

pub returns-else-are_pairs : goal.returns-else-are_pairs
returns-else-are_pairs c =
    sym (ap piece_of c.in-Some.ensures.piece.left ∙ pairs_are c.in-Some.word.now ∙ ap (λ b. cond b (Some (octets_in c.in-Some.word.now)) None) (sym c.are_pairs.ensures ∙ c.if-are_pairs.false))
