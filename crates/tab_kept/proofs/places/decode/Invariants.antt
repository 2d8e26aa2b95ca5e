use Rattle.std.proofs.Common.{◌≡◌, ◌-◌, ◌++◌, length, take, drop, replicate}
use Rattle.tab_law.specs.declared.limits.TheConstants.{PLACES}
use Rattle.tab_kept.specs.Coded.{decoded}
use Rattle.tab_kept.proofs.places.decode.Given as goal

-- the numbers so far stand in their places, the others are in the rest, and behind them there are zeros
abbrev pub invariant-loop-place : goal.invariant-loop-place
invariant-loop-place l = record {
  whole : length l.places ≡ PLACES;
  split : decoded l.count l.octets ≡ take l.place l.places ++ decoded (l.count - l.place) l.rest;
  zeros : drop l.place l.places ≡ replicate (PLACES - l.place) 0;
}
