use Rattle.std.proofs.Common.{◌≡◌, length}
use Rattle.std.specs.Prelude.{is_some}
use Rattle.script_text.specs.Keys.{name_of}
use Rattle.script_text.proofs.keys.is_name.Given as goal

-- what was passed shows octets
abbrev pub invariant-loop-left : goal.invariant-loop-left
invariant-loop-left l = is_some (name_of l.text) ≡ is_some (name_of l.left)

-- each turn takes an octet
abbrev pub decreases-loop-left : goal.decreases-loop-left
decreases-loop-left l = length l.left
