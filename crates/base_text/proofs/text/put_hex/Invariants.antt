use Rattle.std.proofs.Common.{◌≡◌, ◌≤◌, ◌-◌, ◌++◌, length, take}
use Rattle.hex.specs.Hex.{encode_lower}
use Rattle.base_text.proofs.text.put_hex.Given as goal

-- the octets so far are put
abbrev pub invariant-chunks : goal.invariant-chunks
invariant-chunks l = (l.at ≤ length l.octets) × (l.out.items ≡ l.initial.out.items ++ encode_lower (take l.at l.octets))

abbrev pub decreases-chunks : goal.decreases-chunks
decreases-chunks l = length l.octets - l.at
