use Rattle.std.proofs.Common.{◌≡◌, ◌≤◌, ℕ, ◌+◌, ◌*◌, ◌-◌, length, take, Option, None}
use Rattle.base_text.specs.Digits.{Means}
use Rattle.base_text.proofs.digits.run_of_pairs.Given as goal

-- what the text meant up to the first place, it means with the pairs so far
abbrev pub invariant-pairs : goal.invariant-pairs
invariant-pairs l =
    ((before : Option ℕ) → Means before (take l.used l.text) (take l.made l.initial.piece) None → Means before (take l.at l.text) (take l.to l.piece) None)
    × (l.at ≤ length l.text) × (l.to ≤ length l.piece) × (l.made ≤ l.to) × (l.at ≡ l.used + 2 * (l.to - l.made))

abbrev pub decreases-pairs : goal.decreases-pairs
decreases-pairs l = length l.piece - l.to
