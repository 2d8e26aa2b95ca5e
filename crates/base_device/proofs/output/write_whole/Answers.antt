use Rattle.std.proofs.Common.{◌≤◌, ◌-◌, length, take, drop, arith, ◌∙◌}
use Rattle.std.proofs.Math.Seq.{take-add}
use Rattle.std.proofs.KnownBytes.{Appends-trans}
use Rattle.std.proofs.lemmas.List.{take_rest, length-drop}
use Rattle.std.specs.Io.KnownBytes.{Appends}
use Rattle.base_device.proofs.output.write_whole.Goals as goal

-- what was taken before, and the octets that this write took
pub pieces-preserved : goal.pieces-preserved
pieces-preserved g c =
    let octets = c.args.octets.now in
    let at = c.pieces.at in
    let count = c.in_ok-at.field-0 in
    let taken = rw take_rest at c.in_ok-at.ensures.taken in
    let within : count ≤ length octets - at = rw length-drop at taken.within in
    let appended : Appends (g.O.ByteSink.contents c.pieces.sink) (g.O.ByteSink.contents c.write_some.new.sink) (take count (drop at octets)) = taken.appended in (
      omega arith,
      taken.busy,
      taken.sound ∙ c.pieces.invariant.2,
      rw take-add (Appends-trans _ _ _ (take at octets) (take count (drop at octets)) c.pieces.invariant.3 appended),
      (let row = c.write_some.ensures.row in let before = c.pieces.invariant.4 in omega arith),
    )
