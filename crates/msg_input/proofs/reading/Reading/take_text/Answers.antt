use Rattle.std.proofs.Common.{◌≡◌, ◌++◌, ◌+◌, ◌-◌, ◌≤◌, length, take, drop, get_or, sym, ap, subst, ◌∙◌, arith}
use Rattle.std.proofs.lemmas.List.{length-take-le, take_rest}
use Rattle.std.proofs.lemmas.Result.{err_from_is_err_and}
use Rattle.base_text.specs.Stops.{StopsBy}
use Rattle.base_text.specs.declared.digits.Stop.{Stop}
use Rattle.base_text.specs.declared.digits.Stop.TheVariants.{BadCharacter}
use Rattle.base_text.proofs.Meaning.{cut_at, front_more}
use Rattle.msg_input.proofs.ReadLemmas.{SoFar-more, SoFar-whole, TakesText-refused, front_is_no_longer}
use Rattle.msg_input.proofs.reading.Reading.take_text.Goals as goal

-- a piece was refused
pub returns-in_err-take_piece-clause-taken : goal.returns-in_err-take_piece-clause-taken
returns-in_err-take_piece-clause-taken g c = λ first before written so_far.
    let decoded = c.decode-decoded.result in
    let rest = c.pieces.rest.now in
    let used = c.pieces.invariant.0 in
    let so = c.pieces.invariant.3 first before written so_far in
    let answer = err_from_is_err_and c.from_residual.result c.from_residual.ensures.1 in
    let kept = c.take_piece.ensures.kept.1 in
    let within = length-take-le decoded.used rest c.decode-decoded.ensures.used in
    let count : c.take_piece.new.self.characters ≡ c.pieces.self.characters + length (take decoded.used rest) = omega arith in
    let taken = c.in_err-take_piece.ensures.stands first so.octets written so.stands in
    let few : length (take decoded.made c.decode-decoded.new.piece) ≤ 4096 = let shorter = front_is_no_longer decoded.made c.decode-decoded.new.piece in omega arith in
    TakesText-refused (g.M.Printer.Says c.args.glossary.now c.args.line) first c.pieces.self c.take_piece.new.self before used (take decoded.used rest) (drop decoded.used rest) _ written c.args.text.now decoded.half
    c.from_residual.result c.in_err-take_piece.field-0.0 answer.0 answer.1 answer.2
    (c.pieces.invariant.1 ∙ front_more used rest decoded.used) so c.decode-decoded.ensures.meaning c.take_piece.ensures.kept.0 count taken few

-- the character where decoding stopped
pub returns-in-BadCharacter-clause-taken : goal.returns-in-BadCharacter-clause-taken
returns-in-BadCharacter-clause-taken g c = λ first before written so_far.
    let decoded = c.decode-decoded.result in
    let rest = c.pieces.rest.now in
    let used = c.pieces.invariant.0 in
    let so = c.pieces.invariant.3 first before written so_far in
    let kept = c.take_piece.ensures.kept.1 in
    let within = length-take-le decoded.used rest c.decode-decoded.ensures.used in
    let count : c.take_piece.new.self.characters ≡ c.pieces.self.characters + length (take decoded.used rest) = omega arith in
    let taken = c.in_ok-take_piece.ensures.stands first so.octets written so.stands in
    let stops : StopsBy rest (length c.decode-decoded.new.piece) decoded.used decoded.made BadCharacter =
    subst (λ (s : Stop). StopsBy rest (length c.decode-decoded.new.piece) decoded.used decoded.made s) c.in-BadCharacter.is c.decode-decoded.ensures.stop in
    let parts = ap (λ xs. (used ++ take decoded.used rest) ++ xs) (cut_at rest decoded.used stops.0) in (
      used ++ take decoded.used rest,
      get_or rest decoded.used 0,
      drop (decoded.used + 1) rest,
      c.pieces.invariant.1 ∙ (front_more used rest decoded.used ∙ parts),
      stops.1,
      SoFar-more (g.M.Printer.Says c.args.glossary.now c.args.line) first c.pieces.self c.take_piece.new.self before used (take decoded.used rest) _ written decoded.half _ so c.decode-decoded.ensures.meaning c.take_piece.ensures.kept.0 count taken,
    )

-- what was used before, and what was used now
pub pieces-preserved : goal.pieces-preserved
pieces-preserved g c =
    let decoded = c.decode-decoded.result in
    let rest = c.pieces.rest.now in
    let used = c.pieces.invariant.0 in
    let kept = c.take_piece.ensures.kept.1 in
    let within = length-take-le decoded.used rest c.decode-decoded.ensures.used in
    let count : c.take_piece.new.self.characters ≡ c.pieces.self.characters + length (take decoded.used rest) = omega arith in
    let left : drop decoded.used rest ≡ take (length rest - decoded.used) (drop decoded.used rest) = sym (take_rest rest decoded.used) in (
      used ++ take decoded.used rest,
      c.pieces.invariant.1 ∙ (front_more used rest decoded.used ∙ ap (λ xs. (used ++ take decoded.used rest) ++ xs) left),
      (let so_far = c.pieces.invariant.2 in omega arith),
      λ first before written so_far.
          let so = c.pieces.invariant.3 first before written so_far in
          SoFar-more (g.M.Printer.Says c.args.glossary.now c.args.line) first c.pieces.self c.take_piece.new.self before used (take decoded.used rest) _ written decoded.half _ so c.decode-decoded.ensures.meaning c.take_piece.ensures.kept.0 count
          (c.in_ok-take_piece.ensures.stands first so.octets written so.stands),
    )

-- all of the text is used
pub returns-clause-taken : goal.returns-clause-taken
returns-clause-taken g c = λ first before written so_far.
    SoFar-whole (g.M.Printer.Says c.args.glossary.now c.args.line) first c.pieces.self before c.pieces.invariant.0 c.pieces.rest.now c.args.text.now written (sym c.is_empty.ensures ∙ c.pieces-test.false) c.pieces.invariant.1
    (c.pieces.invariant.3 first before written so_far)
