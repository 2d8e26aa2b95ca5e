use Rattle.std.proofs.Common.{◌≡◌, ◌++◌, take}
use Rattle.std.specs.List.{flat_map}
use Rattle.event_text.specs.Deeds.{deed_line}
use Rattle.event_text.proofs.deeds.put_deeds.Given as goal

-- the deeds so far are put
abbrev pub invariant-loop-deed : goal.invariant-loop-deed
invariant-loop-deed l = l.out.items ≡ l.initial.out.items ++ flat_map deed_line (take l.deed-index l.deeds)
