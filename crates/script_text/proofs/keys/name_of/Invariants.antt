use Rattle.std.proofs.Common.{◌≡◌, ◌++◌, length}
use Rattle.std.specs.Option.{option_map}
use Rattle.script_text.specs.Keys.{name_of}
use Rattle.script_text.proofs.keys.name_of.Given as goal

-- the octets so far stand in front of those that are left
abbrev pub invariant-loop-left : goal.invariant-loop-left
invariant-loop-left l = name_of l.text ≡ option_map (λ others. l.octets.items ++ others) (name_of l.left)

-- each turn takes an octet
abbrev pub decreases-loop-left : goal.decreases-loop-left
decreases-loop-left l = length l.left
