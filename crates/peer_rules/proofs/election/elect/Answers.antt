use Rattle.std.proofs.Common.{◌<◌, length, arith, sym, ◌∙◌}
use Rattle.std.proofs.lemmas.List.{length-map}
use Rattle.std.specs.Char.{to_ascii_lowercase}
use Rattle.peer_rules.proofs.ElectionLemmas.{decided, Agrees-more, lowered-at}
use Rattle.peer_rules.proofs.election.elect.Goals as goal

pub returns-then-own-other : goal.returns-then-own-other
returns-then-own-other c =
    let here : c.loop-i.i < length c.args.remote.now = omega (arith, c.if-i-remote.false) in
    decided c.loop-i.i _ _ _ _ c.loop-i.invariant (rw (length-map c.args.local.now to_ascii_lowercase) c.loop-i-test.true) (rw (length-map c.args.remote.now to_ascii_lowercase) here)
    (lowered-at c.args.local.now c.loop-i.i _ c.loop-i-test.true c.lowered-own.ensures)
    (lowered-at c.args.remote.now c.loop-i.i _ here c.lowered-other.ensures)
    c.if-own-other.true

pub loop-i-preserved : goal.loop-i-preserved
loop-i-preserved c =
    let here : c.loop-i.i < length c.args.remote.now = omega (arith, c.if-i-remote.false) in
    let own = lowered-at c.args.local.now c.loop-i.i _ c.loop-i-test.true c.lowered-own.ensures in
    let its = lowered-at c.args.remote.now c.loop-i.i _ here c.lowered-other.ensures in
    Agrees-more c.loop-i.i _ _ c.loop-i.invariant (rw (length-map c.args.local.now to_ascii_lowercase) c.loop-i-test.true) (rw (length-map c.args.remote.now to_ascii_lowercase) here) (own ∙ (c.if-own-other.false ∙ sym its))
