use Rattle.std.proofs.Common.{◌≡◌, ◌++◌, take}
use Rattle.live_stats.specs.Lines.{states_text}
use Rattle.live_stats.proofs.line.put_states.Given as goal

abbrev pub invariant-states : goal.invariant-states
invariant-states l = l.out.items ≡ l.fn.out.items ++ states_text l.states (take l.state l.counts)
