use Rattle.std.proofs.Common.{◌<◌, length, take, option_to_list, arith}
use Rattle.std.proofs.lemmas.List.{append-nil, take_more_set}
use Rattle.base_text.proofs.Meaning.{Means-more, take_one}
use Rattle.base_text.proofs.digits.decode.Goals as goal
use Rattle.base_text.proofs.digits.decode.Goals.{in-Some-octet, in_default-octet}

-- one character more, and the pairs behind it
pub steps-preserved : goal.steps-preserved
steps-preserved c =
    let text = c.args.text.now in
    let used = c.steps.used in
    let made = c.steps.made in
    let step = c.in-Some.step in
    let below : used < length text = c.steps-test.true in
    let more = Means-more c.args.half c.steps.half step.half text (take made c.steps.piece) (option_to_list step.octet) used 1 c.steps.invariant.0 (rw (take_one text used below) c.in-Some.ensures.value) in
    elim c.match-step.branch [
      | in-Some-octet w ↦
          let room : made < length c.steps.piece = omega arith in
          (c.pairs-count.ensures.meaning c.args.half (rw (w.piece-is, w.made-is, take_more_set c.steps.piece made w.in-Some-octet.octet room) (rw w.in-Some-octet.is at more)), omega arith, omega arith, omega arith)
      | in_default-octet w ↦
          (c.pairs-count.ensures.meaning c.args.half (rw (w.piece-is, w.made-is, ← append-nil (take made c.steps.piece)) (rw w.in_default-octet.is at more)), omega arith, omega arith, omega arith)
    ]
