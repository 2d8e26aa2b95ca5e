-- Nodes that live side by side.
use Rattle.std.specs.Prelude.{◌≡◌, ℕ, List, Option, Some, length, slice_get}
use Rattle.bench_spec.specs.Settings.{Settings}
use Rattle.live_turns.specs.declared.turns.Lived.{Lived}
use Rattle.live_turns.specs.declared.turns.Living.{Living}

-- what the bench of a node that is to live was opened with
abbrev pub opened_with : Living → Settings
opened_with living = living.sockets.port.node.node.settings

-- what became of each node, in their order, is a world of the bench that it had
pub record AreTogether (livings : List Living) (lived : List (Option Lived)) : Type 0 where
  pub each : length lived ≡ length livings
  pub worlds : (place : ℕ) (living : Living) (one : Lived) → slice_get livings place ≡ Some living
      → slice_get lived place ≡ Some (Some one) → one.core.settings ≡ opened_with living
