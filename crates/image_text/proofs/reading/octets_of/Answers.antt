use Rattle.std.proofs.Common.{length, sym, ◌∙◌}
use Rattle.image_text.proofs.ReadingLemmas.{not-spelled}
use Rattle.image_text.proofs.reading.octets_of.Goals as goal

-- the text isn't digits, two for each octet
pub returns-then-not-is_whole-clause-err : goal.returns-then-not-is_whole-clause-err
returns-then-not-is_whole-clause-err c =
    not-spelled c.one_meaning.ensures c.args.text.now c.decode-decoded.new.piece (length c.decode-decoded.new.piece) c.decode-decoded.result.used c.decode-decoded.result.made c.decode-decoded.result.stop c.decode-decoded.result.half (sym c.is_whole.ensures ∙ c.if-not-is_whole.true) (c.decode-decoded.auto.piece ∙ c.as_mut_slice.ensures.len ∙ c.in_ok-octets.ensures.len) c.decode-decoded.ensures.progress c.decode-decoded.ensures.stop c.decode-decoded.ensures.meaning
