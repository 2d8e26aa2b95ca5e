use Rattle.std.proofs.Common.{◌≡◌, ◌<◌, ◌+◌, ◌-◌, [], ◌∷◌, length, take, None, sym, arith}
use Rattle.std.proofs.lemmas.List.{take_more_set, length-set}
use Rattle.base_text.proofs.Meaning.{Means-more, take_two}
use Rattle.base_text.proofs.digits.run_of_pairs.Goals as goal

-- one pair more
pub pairs-preserved : goal.pairs-preserved
pairs-preserved c =
    let text = c.args.text.now in
    let at = c.pairs.at in
    let to = c.pairs.to in
    let h = c.pairs.invariant in
    let octet = c.in-Some.octet in
    let room : to < length c.pairs.piece = omega arith in
    let two = take_two text at (omega arith) in (
      λ before m. rw (take_more_set c.pairs.piece to octet room) (Means-more before None None text (take to c.pairs.piece) (octet ∷ []) at 2 (h.0 before m) (rw two c.in-Some.ensures)),
      omega arith,
      omega (arith, length-set c.pairs.piece to octet),
      omega arith,
      omega arith,
    )

pub returns-in_default-clause-meaning : goal.returns-in_default-clause-meaning
returns-in_default-clause-meaning c =
    let h = c.pairs.invariant in
    let end : c.args.made + (c.pairs.to - c.args.made) ≡ c.pairs.to = omega arith in
    λ before m. rw (end, sym h.4) (h.0 before m)

pub returns-clause-meaning : goal.returns-clause-meaning
returns-clause-meaning c =
    let h = c.pairs.invariant in
    let end : c.args.made + (c.pairs.to - c.args.made) ≡ c.pairs.to = omega arith in
    λ before m. rw (end, sym h.4) (h.0 before m)
