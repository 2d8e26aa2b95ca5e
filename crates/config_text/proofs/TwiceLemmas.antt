-- What stands twice in a value, level by level.
use Rattle.std.proofs.Common.{◌≡◌, ◌≢◌, ◌-◌, ℕ, zero, suc, None, refl, arith}
use Rattle.json.specs.Json.{Json}
use Rattle.config_text.specs.Twice.{first_twice, twice_with}

pub twice_at_zero : (j : Json) → first_twice 0 j ≡ None
unfolding first_twice
twice_at_zero j = refl

pub twice_below : (depth : ℕ) (j : Json) → depth ≢ 0 → first_twice depth j ≡ twice_with (first_twice (depth - 1)) j
unfolding first_twice
twice_below zero j some = absurd (some refl)
twice_below (suc depth) j some = let one_less : suc depth - 1 ≡ depth = omega arith in rw one_less refl

pub ruleset twice = (twice_at_zero, twice_below)
