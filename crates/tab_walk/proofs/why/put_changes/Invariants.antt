use Rattle.std.proofs.Common.{◌≡◌, ◌++◌}
use Rattle.tab_walk.specs.Whys.{changes_below}
use Rattle.tab_walk.proofs.why.put_changes.Given as goal

-- the registers so far are put
abbrev pub invariant-loop-place : goal.invariant-loop-place
invariant-loop-place l = l.out.items ≡ l.initial.out.items ++ changes_below l.old l.new l.place
