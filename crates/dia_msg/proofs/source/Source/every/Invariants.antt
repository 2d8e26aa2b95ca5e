use Rattle.std.proofs.Common.{◌≡◌, false, filter, take}
use Rattle.dia_avp.specs.Look.{is_coded}
use Rattle.dia_dict.specs.Dictionary.{known}
use Rattle.dia_command.specs.Field.{AreTypedOf}
use Rattle.dia_msg.specs.Sorting.{seen_all}
use Rattle.dia_msg.proofs.source.Source.every.Given as goal

-- where memory was enough, the values of the AVPs that were met
abbrev pub invariant-loop-avp : goal.invariant-loop-avp
invariant-loop-avp g l =
    l.no_memory ≡ false → (l.fn.no_memory ≡ false) × AreTypedOf (g.T.FromAvp.is_value (known l.self.dictionary.now)) l.values (filter (is_coded l.code) (seen_all (take l.avp-index l.self.avps.now)))
