use Rattle.std.proofs.Common.{◌≤◌, ◌-◌, length, take}
use Rattle.base_text.specs.Digits.{Means}
use Rattle.base_text.proofs.digits.decode.Given as goal

-- the text so far means the octets so far
abbrev pub invariant-steps : goal.invariant-steps
invariant-steps l = Means l.fn.half (take l.used l.text) (take l.made l.piece) l.half × (l.made ≤ l.used) × (l.made ≤ length l.piece) × (l.used ≤ length l.text)

abbrev pub decreases-steps : goal.decreases-steps
decreases-steps l = length l.text - l.used
