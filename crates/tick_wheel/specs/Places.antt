-- The places of the owners, as the code keeps them: each owner with its timer, if one is armed.
use Rattle.std.specs.Prelude.{◌≡◌, ℕ, ◌-◌, ◌^◌, ◌≤◌, nat_le, min, map, filter_map}
use Rattle.std.specs.Prelude.{List, [], ◌∷◌, Option, None, Some, if◌then◌else◌}
use Rattle.std.specs.FinMap as fin
use Rattle.tick_wheel.specs.Timers.{ByOwner, with_timer, is_due, ComesBefore}
use Rattle.tick_wheel.specs.declared.timer.Armed.{Armed}
use Rattle.tick_wheel.specs.declared.timer.Firing.{Firing}

-- an owner with its timer, if one is armed
abbrev pub Place : Type 0
Place = ℕ × Option Armed

-- the armed timers of these places
abbrev pub armed_of : List Place → ByOwner
armed_of [] = fin.empty
armed_of (place ∷ places) = with_timer (armed_of places) place.0 place.1

-- what is left of a timer once the moment has come
abbrev pub left_at : ℕ → Option Armed → Option Armed
left_at now timer = if is_due now timer then None else timer

-- the places once the moment has come
abbrev pub places_at : ℕ → List Place → List Place
places_at now places = map (λ place. (place.0, left_at now place.1)) places

-- the firing of a place whose timer is due
abbrev pub firing_of : ℕ → Place → Option Firing
firing_of now (owner, None) = None
firing_of now (owner, Some timer) =
    if nat_le timer.due now then Some (record { due = timer.due; owner = owner; generation = timer.generation })
    else None

-- the firings of all places whose timers are due, in the order of the places
abbrev pub firings_of : ℕ → List Place → List Firing
firings_of now places = filter_map (firing_of now) places

-- the due moment of a timer that is armed and not due yet, and else the last moment
abbrev pub later_due : ℕ → Option Armed → ℕ
later_due now None = 2 ^ 64 - 1
later_due now (Some timer) = if nat_le timer.due now then 2 ^ 64 - 1 else timer.due

-- the least of these
abbrev pub next_due : ℕ → List Place → ℕ
next_due now [] = 2 ^ 64 - 1
next_due now (place ∷ places) = min (later_due now place.1) (next_due now places)

-- no armed timer is due before the bound
abbrev pub NoneDueBefore : ℕ → ByOwner → Type 0
NoneDueBefore bound armed = (owner : ℕ) (timer : Armed) → fin.get armed owner ≡ Some timer → bound ≤ timer.due

-- the bound, once this timer is armed too
abbrev pub bound_with : ℕ → Option Armed → ℕ
bound_with bound None = bound
bound_with bound (Some timer) = min bound timer.due

-- a firing that does not come after another
abbrev pub NotAfter : Firing → Firing → Type 0
NotAfter x y = ComesBefore y x → ⊥
