use Rattle.std.proofs.Common.{◌≡◌, drop}
use Rattle.std.specs.Prelude.{find}
use Rattle.dia_avp.specs.Look.{is_coded}
use Rattle.dia_avp.proofs.look.first_of.Given as goal

-- none that was looked at has the code
abbrev pub invariant-loop-avp : goal.invariant-loop-avp
invariant-loop-avp l = find (is_coded l.code) l.avps ≡ find (is_coded l.code) (drop l.avp-index l.avps)
