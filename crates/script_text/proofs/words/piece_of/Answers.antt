use Rattle.std.proofs.Common.{sym, ◌∙◌, rules}
use Rattle.script_text.specs.Scripts.{piece_of}
use Rattle.script_text.proofs.PairLemmas.{no_piece, pairs_are}
use Rattle.script_text.proofs.words.piece_of.Goals as goal

pub returns-then-not-is_pairs-clause-piece : goal.returns-then-not-is_pairs-clause-piece
returns-then-not-is_pairs-clause-piece c = sym (no_piece c.args.word.now (sym c.is_pairs.ensures ∙ c.if-not-is_pairs.true))

pub returns-in-Ok-clause-piece : goal.returns-in-Ok-clause-piece
unfolding piece_of
returns-in-Ok-clause-piece c = search rules

pub returns-in-Err-OutOfMemory-clause-memory : goal.returns-in-Err-OutOfMemory-clause-memory
returns-in-Err-OutOfMemory-clause-memory c = pairs_are c.args.word.now ∙ (sym c.is_pairs.ensures ∙ c.if-not-is_pairs.false)

pub returns-in-Err : goal.returns-in-Err
unfolding piece_of
returns-in-Err c = search rules
