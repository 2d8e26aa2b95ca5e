use Rattle.std.proofs.Common.{length, map}
use Rattle.dia_dict.specs.Dictionary.{known}
use Rattle.msg_explain.specs.Parts.{seen_part}
use Rattle.msg_explain.proofs.PartLemmas.{Listed}
use Rattle.msg_explain.proofs.parts.+list_parts.Given as goal

abbrev pub decreases-list_parts : goal.decreases-list_parts
decreases-list_parts l = l.room

-- the parts so far are listed
abbrev pub invariant-loop-rest : goal.invariant-loop-rest
invariant-loop-rest l = Listed (known l.dictionary) l.room l.end l.octets (map seen_part l.initial.list.items) (map seen_part l.list.items) l.rest

abbrev pub decreases-loop-rest : goal.decreases-loop-rest
decreases-loop-rest l = length l.rest
