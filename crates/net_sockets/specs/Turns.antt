-- What sockets make of the bench behind them.
use Rattle.std.specs.Prelude.{ℕ}
use Rattle.bench_net.specs.Events.{Event}

-- it took what came on connections, and losses, and moved in between, each time as it says
pub data Turned {N : Type 0} (takes : N → ℕ → Event → N → Type 0) (moves : N → N → Type 0) (old : N) : N → Type 0 where
  still : Turned takes moves old old
  took : (mid new : N) (line : ℕ) (event : Event) → Turned takes moves old mid → takes mid line event new
      → Turned takes moves old new
  moved : (mid new : N) → Turned takes moves old mid → moves mid new → Turned takes moves old new
