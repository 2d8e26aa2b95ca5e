-- What a wheel is seen as, and what its calls make of that.
use Rattle.std.specs.Prelude.{◌≡◌, ℕ, ◌+◌, ◌-◌, ◌^◌, ◌<◌, ◌≤◌, ◌⊎◌, Bool, false, not, nat_le, min}
use Rattle.std.specs.Prelude.{max, List, Option, None, Some, Contains, AllPairs, ◌↔◌, refl}
use Rattle.std.specs.Ordering.{nat_cmp}
use Rattle.std.specs.Coded.{Coded, code_by, coded×, coded_ℕ}
use Rattle.std.specs.FinMap as map
use Rattle.std.specs.FinSet as set
use Rattle.tick_wheel.specs.declared.timer.Armed.{Armed}
use Rattle.tick_wheel.specs.declared.timer.Firing.{Firing}

-- the armed timers by their owners' numbers
abbrev pub ByOwner : Type 0
ByOwner = map.FinMap nat_cmp Armed

-- a wheel: its last moment, the armed timers, and the owners that have a place, which are all that were ever armed
pub record Timers : Type 0 where
  pub moment : ℕ
  pub armed : ByOwner
  pub places : set.FinSet nat_cmp

-- an armed timer is stored as the pair of its fields
abbrev pub armed_code : Coded Armed
armed_code =
    code_by (ℕ × ℕ) (coded× coded_ℕ coded_ℕ) (λ a. (a.generation, a.due)) (λ p. record { generation = p.0; due = p.1 })
    (λ _. refl)

-- a wheel is stored as the pair of its moment with the pair of its collections
abbrev pub timers_code : Coded Timers
timers_code =
    code_by (ℕ × (ByOwner × set.FinSet nat_cmp))
    (coded× coded_ℕ (coded× (map.code coded_ℕ armed_code) (set.code coded_ℕ)))
    (λ w. (w.moment, (w.armed, w.places))) (λ p. record { moment = p.0; armed = p.1.0; places = p.1.1 }) (λ _. refl)

-- no timer is armed, no owner has a place, and no tick has passed
abbrev pub at_start : Timers
at_start = record { moment = 0; armed = map.empty; places = set.empty }

-- the moment so many ticks after another, at most the last that a number of 64 bits can say
abbrev pub moment_after : ℕ → ℕ → ℕ
moment_after moment ticks = min (moment + ticks) (2 ^ 64 - 1)

-- the armed timers, once this is the owner's
abbrev pub with_timer : ByOwner → ℕ → Option Armed → ByOwner
with_timer armed owner None = map.remove armed owner
with_timer armed owner (Some timer) = map.insert armed owner timer

-- the wheel, once this is the owner's timer
abbrev pub with_timer_of : Timers → ℕ → Option Armed → Timers
with_timer_of old owner timer = record {
  moment = old.moment;
  armed = with_timer old.armed owner timer;
  places = old.places;
}

-- two wheels at one moment with the same timers armed, whoever has a place
abbrev pub AreAlike : Timers → Timers → Type 0
AreAlike x y = (x.moment ≡ y.moment) × (x.armed ≡ y.armed)

-- the wheel after an arm: the owner has this timer alone, and a place
abbrev pub after_arm : Timers → ℕ → ℕ → ℕ → Timers
after_arm old owner generation ticks = record {
  moment = old.moment;
  armed = with_timer old.armed owner (Some (record { generation = generation; due = moment_after old.moment ticks }));
  places = set.insert old.places owner;
}

-- the moment to which a wheel is taken: one below the last counts as the last
abbrev pub reached : Timers → ℕ → ℕ
reached old moment = max moment old.moment

-- a timer is due from its moment on
abbrev pub is_due : ℕ → Option Armed → Bool
is_due now None = false
is_due now (Some timer) = nat_le timer.due now

-- the wheel after its moment has come: the timers that are due are armed no longer
abbrev pub after_advance : Timers → ℕ → Timers
after_advance old now = record {
  moment = now;
  armed = map.retain_keys old.armed (λ owner. not (is_due now (map.get old.armed owner)));
  places = old.places;
}

-- the firing is of an armed timer that is due
abbrev pub IsDueFiring : ByOwner → ℕ → Firing → Type 0
IsDueFiring armed now firing =
    (map.get armed firing.owner ≡ Some (record { generation = firing.generation; due = firing.due }))
    × (firing.due ≤ now)

-- a firing comes before another: it was due earlier, or at the same moment and its owner is lower
abbrev pub ComesBefore : Firing → Firing → Type 0
ComesBefore x y = (x.due < y.due) ⊎ ((x.due ≡ y.due) × (x.owner < y.owner))

-- the firings are those of the armed timers that are due, each once, by due moment and then owner
pub record AreFired (armed : ByOwner) (now : ℕ) (fired : List Firing) : Type 0 where
  pub each : (firing : Firing) → Contains fired firing ↔ IsDueFiring armed now firing
  pub ordered : AllPairs ComesBefore fired
