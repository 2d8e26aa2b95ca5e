use Rattle.std.proofs.Common.{◌≡◌, ◌<◌, ◌≤◌, ◌*◌, ◌^◌, length, take}
use Rattle.std.specs.Prelude.{All}
use Rattle.tab_kept.specs.Coded.{coded}
use Rattle.tab_kept.proofs.code.octets_of.Given as goal

-- the numbers so far stand in the octets before the place, nine at most of each, and each has at most 64 bits
abbrev pub invariant-loop-number : goal.invariant-loop-number
invariant-loop-number l = record {
  octets : take l.at l.room ≡ coded (take l.number-index l.numbers);
  few : l.at ≤ 9 * l.number-index;
  fit : All (λ n. n < 2 ^ 64) (take l.number-index l.numbers);
}
