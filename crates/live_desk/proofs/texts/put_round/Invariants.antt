use Rattle.std.proofs.Common.{◌≡◌, ◌++◌, length}
use Rattle.live_desk.specs.Texts.{in_round}
use Rattle.live_desk.proofs.texts.put_round.Given as goal

-- what was put, and what the rest will be
abbrev pub invariant-octets : goal.invariant-octets
invariant-octets l = l.initial.out.items ++ in_round l.round l.words ≡ l.out.items ++ in_round l.round l.left

-- each turn takes an octet at least
abbrev pub decreases-octets : goal.decreases-octets
decreases-octets l = length l.left
