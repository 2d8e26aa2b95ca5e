use Rattle.std.proofs.Common.{◌≡◌, ◌≤◌, length, take}
use Rattle.text_parts.specs.Words.{trimmed_back}
use Rattle.text_parts.proofs.spelling.trimmed_back.Given as goal

abbrev pub invariant-loop-len : goal.invariant-loop-len
invariant-loop-len l = record {
  within : l.len ≤ length l.octets;
  same : trimmed_back (take l.len l.octets) ≡ trimmed_back l.octets;
}

abbrev pub decreases-loop-len : goal.decreases-loop-len
decreases-loop-len l = l.len
