use Rattle.std.proofs.Common.{◌≤◌, ◌+◌, take, refl, ◌∙◌, arith}
use Rattle.std.proofs.lemmas.List.{length-take}
use Rattle.bench_net.proofs.SendLemmas.{Sends-more, length-front}
use Rattle.bench_net.proofs.TextLemmas.{StandsAt-copied}
use Rattle.bench_net.proofs.send.send.Goals as goal

-- octets went out
pub turns-preserved : goal.turns-preserved
turns-preserved g c =
    let before = c.turns.invariant in
    let put = c.in-Taken.ensures.put in
    let taken = c.in-Taken.taken in
    let count = c.unsent-count.result in
    let buffer = c.unsent-count.new.buffer in
    let shorter = length-take count buffer in
    let within = c.in-Taken.ensures.within in
    let copied = c.unsent-count.ensures.within in
    let few : taken ≤ count = omega (arith, within, shorter) in (
      omega (arith, before.0),
      omega (arith, before.1, c.write_once.ensures.writes, c.requires.writes, before.0),
      put.0 ∙ before.2,
      put.1 ∙ before.3,
      omega (arith, before.4, c.write_once.ensures.idle),
      omega (arith, before.5, few, copied),
      before.6,
      before.7,
      before.8,
      Sends-more g.P.Port.sent g.O.ByteSink.contents c.args.port.now c.args.pipe.now.out c.turns.pipe.out (c.turns.pipe.out + taken) c.args.sink.now c.turns.sink c.write_once.new.sink c.turns.written taken (take taken (take count buffer)) before.9 c.in-Taken.ensures.octets
          (length-front taken count buffer within) refl (StandsAt-copied (g.P.Port.sent c.args.port.now) c.turns.pipe.out count taken buffer c.unsent-count.ensures.copies few),
    )
