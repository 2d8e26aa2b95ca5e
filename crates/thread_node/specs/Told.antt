-- What a desk of a node tells whose shards run in threads.
use Rattle.std.specs.Prelude.{◌≡◌, ◌⊎◌, Bool, false, true}
use Rattle.bench_item.specs.declared.step.Step.{Step}
use Rattle.bench_spec.specs.Settings.{Settings}
use Rattle.live_desk.specs.Desks.{IsDue, LooksInVain, gone_on}
use Rattle.live_desk.specs.Standing.{Standing}
use Rattle.live_desk.specs.declared.desk.Desk.{Desk}

-- a desk went on behind a text that was due by where machines stood that were looked at
pub record WentOn (settings : Settings) (old new : Desk) : Type 0 where
  pub seen : Standing
  pub of_bench : seen.settings ≡ settings
  pub step : Step
  pub due : IsDue seen old step
  pub behind : new ≡ gone_on old

-- it stayed where it is, or looked in vain once more
pub record Stayed (settings : Settings) (old new : Desk) : Type 0 where
  pub seen : Standing
  pub of_bench : seen.settings ≡ settings
  pub stayed : (new ≡ old) ⊎ LooksInVain seen old new

abbrev pub Tells : Settings → Desk → Desk → (went_on : Bool) → Type 0
Tells settings old new true = WentOn settings old new
Tells settings old new false = Stayed settings old new
