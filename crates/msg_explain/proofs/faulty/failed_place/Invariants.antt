use Rattle.std.proofs.Common.{◌≡◌, drop, map}
use Rattle.dia_avp.specs.View.{seen}
use Rattle.dia_dict.specs.Dictionary.{known}
use Rattle.msg_explain.specs.Parts.{seen_part}
use Rattle.msg_explain.specs.Faulty.{failed_place}
use Rattle.msg_explain.proofs.faulty.failed_place.Given as goal

-- the place of the failed AVP among all parts is that among the rest
abbrev pub invariant-loop-part : goal.invariant-loop-part
invariant-loop-part l =
    failed_place (known l.dictionary) l.code (seen l.failed) (map seen_part l.parts) ≡ failed_place (known l.dictionary) l.code (seen l.failed) (map seen_part (drop l.part-index l.parts))
