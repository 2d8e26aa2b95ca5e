-- What desks of a running bench keep, as they are called.
use Rattle.std.specs.Prelude.{◌≡◌, ℕ, List, [], ◌∷◌, length, true}
use Rattle.tab_step.specs.declared.machine.Event.{Event}
use Rattle.bench_item.specs.declared.key.Key.{Key}
use Rattle.bench_desk.specs.Desks.{DeskView, seen_as, with_kept}
use Rattle.bench_desk.specs.declared.look.Look.{Look}
use Rattle.bench_spec.specs.Desks.{agrees, tell_kept}
use Rattle.bench_spec.specs.Merged.{Saw}
use Rattle.bench_spec.specs.Settings.{Settings}

-- a desk told a machine an event: just that was added to what it kept, with stamps that were drawn
pub record HasTold (old new : DeskView) (key : Key) (event : Event) : Type 0 where
  pub stamps : List ℕ
  pub three : length stamps ≡ 3
  pub kept : new ≡ with_kept old (tell_kept old.number stamps key event)

-- a desk looked at a machine: just what it was answered was added; all that it told that shard before waits there or
-- was handled, and no less was handled than when it last looked there
pub record HasLooked (old new : DeskView) (key : Key) (look : Look) : Type 0 where
  pub stamp : ℕ
  pub kept : new ≡ with_kept old (Saw (seen_as stamp key look) ∷ [])
  pub agreed : (settings : Settings) → settings.node.shards ≡ old.shards
      → agrees settings old.number old.kept (seen_as stamp key look) ≡ true
