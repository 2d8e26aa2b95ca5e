-- What steps do to the timers of a node: what a shard puts out arms and disarms them as it is dropped.
use Rattle.std.specs.Prelude.{◌≡◌, Bool, false, true, List, [], ◌∷◌, None, option_to_list}
use Rattle.bench_item.specs.declared.item.Item.{Item}
use Rattle.bench_item.specs.declared.item.Item.TheVariants.{Arm, Disarm}
use Rattle.bench_item.specs.declared.source.Source.{Source}
use Rattle.bench_item.specs.declared.source.Source.TheVariants.{Shard}
use Rattle.bench_item.specs.declared.step.Step.{Step}
use Rattle.bench_item.specs.declared.step.Step.TheVariants as steps
use Rattle.bench_log.specs.Targets.{order_in}
use Rattle.bench_spec.specs.Taken.{Run, Takes, shown}
use Rattle.tick_wheel.specs.Timers.{Timers, after_arm, with_timer_of}

-- the first of some items, if it is for no machine and no connection
abbrev pub orders_in : List Item → List Item
orders_in [] = []
orders_in (item ∷ items) = option_to_list (order_in item)

-- the timers once what lay in a hand was dropped
abbrev pub after_items : Timers → List Item → Timers
after_items timers (Arm machine generation ticks ∷ items) = after_arm timers machine generation ticks
after_items timers (Disarm machine ∷ items) = with_timer_of timers machine None
after_items timers items = timers

-- and once a source's hand was dropped
abbrev pub after_drop : Run → Source → Timers → Timers
after_drop run (Shard shard) timers = after_items timers ((shown run).hand_of (Shard shard))
after_drop run source timers = timers

-- the timers after a step
abbrev pub after_step : Run → Step → Timers → Timers
after_step run (steps.Drop source) timers = after_drop run source timers
after_step run step timers = timers

-- steps were taken, one after the other, and each did this to the timers
pub data IsTimed (old : Run) (timers : Timers) : Run → Timers → Type 0 where
  nothing : IsTimed old timers old timers
  one_more : (mid new : Run) (kept : Timers) (step : Step)
      → IsTimed old timers mid kept → Takes mid new step → IsTimed old timers new (after_step mid step kept)

-- and each left the timers as they were
pub record LeavesTimers (old new : Run) : Type 0 where
  pub each : (timers : Timers) → IsTimed old timers new timers

-- timers were made another way, or left
abbrev pub Sets : (went : Bool) → (old made new : Timers) → Type 0
Sets true old made new = new ≡ made
Sets false old made new = new ≡ old
