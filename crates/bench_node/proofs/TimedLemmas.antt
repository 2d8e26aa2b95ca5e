-- What steps do to timers, one after the other.
use Rattle.std.proofs.Common.{◌≡◌, ◌∙◌, ℕ, Bool, true, false, List, Option, [], ◌∷◌, OnErr, OnOk, Ok, Err, Result, ap, option_to_list, refl, subst, sym, IfOk}
use Rattle.bench_item.specs.declared.item.Item.{Item}
use Rattle.bench_item.specs.declared.item.Item.TheVariants.{Arm, Dial, Disarm, ToLine, ToMachine, Undial}
use Rattle.std.specs.declared.alloc.AllocError.{AllocError}
use Rattle.bench_item.specs.declared.source.Source.{Source}
use Rattle.bench_item.specs.declared.source.Source.TheVariants.{Clock, Desk, Line, Shard}
use Rattle.bench_item.specs.declared.step.Step.{Step}
use Rattle.bench_item.specs.declared.step.Step.TheVariants as steps
use Rattle.bench_item.specs.declared.step.StepFault.{StepFault}
use Rattle.bench_spec.specs.Refusal.{is_source}
use Rattle.bench_spec.specs.Taken.{Run, Takes, shown}
use Rattle.tick_wheel.specs.Timers.{Timers}
use Rattle.bench_node.specs.Settled.{Took}
use Rattle.bench_node.specs.Timed.{IsTimed, LeavesTimers, Sets, after_items, after_step, nothing, one_more, orders_in}
use Rattle.bench_node.proofs.SourceLemmas.{dropped_source}

-- no step
pub timed_none : (old new : Run) (t u : Timers) → new ≡ old → u ≡ t → IsTimed old t new u
timed_none old new t u same kept =
    subst (λ (run : Run). IsTimed old t run u) (sym same) (subst (λ (v : Timers). IsTimed old t old v) (sym kept) nothing)

-- one
pub timed_one : (old new : Run) (t u : Timers) (step : Step) → Takes old new step → u ≡ after_step old step t → IsTimed old t new u
timed_one old new t u step taken kept =
    subst (λ (v : Timers). IsTimed old t new v) (sym kept) (one_more old new t step nothing taken)

-- some, and then more
pub timed_on : (old mid : Run) (t u : Timers) (new : Run) (v : Timers) → IsTimed old t mid u → IsTimed mid u new v → IsTimed old t new v
timed_on old mid t u new v first nothing = first
timed_on old mid t u new v first (one_more before after kept step steps taken) =
    one_more before after kept step (timed_on old mid t u before kept first steps) taken

-- none of a bench and timers that are as they were
pub timed_refl : (run : Run) (t : Timers) → IsTimed run t run t
timed_refl run t = nothing

-- one that drops nothing, if it was taken
pub timed_lift : (source : Source) (went : Bool) (old new : Run) (t : Timers) → Took (steps.Lift source) went old new → IsTimed old t new t
timed_lift source true old new t taken = timed_one old new t t (steps.Lift source) taken refl
timed_lift source false old new t kept = timed_none old new t t kept.0 refl

-- a drop of another source than a shard
pub timed_line : (line : ℕ) (went : Bool) (old new : Run) (t : Timers) → Took (steps.Drop (Line line)) went old new → IsTimed old t new t
timed_line line true old new t taken = timed_one old new t t (steps.Drop (Line line)) taken refl
timed_line line false old new t kept = timed_none old new t t kept.0 refl

pub timed_desk : (desk : ℕ) (went : Bool) (old new : Run) (t : Timers) → Took (steps.Drop (Desk desk)) went old new → IsTimed old t new t
timed_desk desk true old new t taken = timed_one old new t t (steps.Drop (Desk desk)) taken refl
timed_desk desk false old new t kept = timed_none old new t t kept.0 refl

pub timed_clock : (went : Bool) (old new : Run) (t : Timers) → Took (steps.Drop Clock) went old new → IsTimed old t new t
timed_clock true old new t taken = timed_one old new t t (steps.Drop Clock) taken refl
timed_clock false old new t kept = timed_none old new t t kept.0 refl

-- what is for a machine or a connection arms and disarms no timer
orders-time : (items : List Item) (t : Timers) → after_items t (orders_in items) ≡ after_items t items
orders-time [] t = refl
orders-time (ToMachine item ∷ items) t = refl
orders-time (ToLine item ∷ items) t = refl
orders-time (Dial peer generation ∷ items) t = refl
orders-time (Undial peer generation ∷ items) t = refl
orders-time (Arm machine generation ticks ∷ items) t = refl
orders-time (Disarm machine ∷ items) t = refl

-- a drop of what lies in a shard's hand
pub timed_drop : (shard : ℕ) (item : Option Item) (went : Bool) (old new : Run) (t u : Timers)
    → (is_source old.settings old.log (Shard shard) ≡ true → option_to_list item ≡ orders_in ((shown old).hand_of (Shard shard)))
    → Took (steps.Drop (Shard shard)) went old new → Sets went t (after_items t (option_to_list item)) u → IsTimed old t new u
timed_drop shard item true old new t u held taken made =
    let here = dropped_source old.settings old.log old.paused (Shard shard) taken.could in
    timed_one old new t u (steps.Drop (Shard shard)) taken (made ∙ ap (after_items t) (held here) ∙ orders-time ((shown old).hand_of (Shard shard)) t)
timed_drop shard item false old new t u held kept made = timed_none old new t u kept.0 made

-- a shard's work, if it was taken
pub leaves_work : (shard : ℕ) (old new : Run) (r : Result (Unit {0}) StepFault) → OnOk r (Takes old new (steps.Work shard)) → OnErr r (new ≡ old) → LeavesTimers old new
leaves_work shard old new (Ok _) taken kept = record { each = λ t. timed_one old new t t (steps.Work shard) taken refl }
leaves_work shard old new (Err f) taken kept = record { each = λ t. timed_none old new t t kept refl }

pub leaves_refl : (run : Run) → LeavesTimers run run
leaves_refl run = record { each = λ t. nothing }

pub leaves_on : (old mid new : Run) → LeavesTimers old mid → LeavesTimers mid new → LeavesTimers old new
leaves_on old mid new first then = record { each = λ t. timed_on old mid t t new t (first.each t) (then.each t) }

-- a drop of another source than a shard, or nothing of it
pub timed_other : (source : Source) (r : Result Bool AllocError) (old new : Run) (t : Timers) → ((shard : ℕ) → source ≡ Shard shard → ⊥)
    → IfOk r (λ went. Took (steps.Drop source) went old new) → OnOk r (IsTimed old t new t)
timed_other (Line line) (Ok went) old new t other took = timed_line line went old new t took
timed_other (Desk desk) (Ok went) old new t other took = timed_desk desk went old new t took
timed_other Clock (Ok went) old new t other took = timed_clock went old new t took
timed_other (Shard shard) (Ok went) old new t other took = absurd (other shard refl)
timed_other source (Err e) old new t other took = tt

-- some, and then a lift
pub timed_then : (source : Source) (r : Result Bool AllocError) (old mid new : Run) (t u : Timers) → IsTimed old t mid u
    → IfOk r (λ went. Took (steps.Lift source) went mid new) → OnOk r (IsTimed old t new u)
timed_then source (Ok went) old mid new t u first took = timed_on old mid t u new u first (timed_lift source went mid new u took)
timed_then source (Err e) old mid new t u first took = tt

-- a drop of an item that arms or disarms
pub timed_by : (shard : ℕ) (item : Option Item) (r : Result Bool AllocError) (old new : Run) (t made u : Timers)
    → (is_source old.settings old.log (Shard shard) ≡ true → option_to_list item ≡ orders_in ((shown old).hand_of (Shard shard)))
    → made ≡ after_items t (option_to_list item) → IfOk r (λ went. Took (steps.Drop (Shard shard)) went old new)
    → IfOk r (λ went. Sets went t made u) → OnOk r (IsTimed old t new u)
timed_by shard item (Ok went) old new t made u held is took set =
    timed_drop shard item went old new t u held took (subst (λ (v : Timers). Sets went t v u) is set)
timed_by shard item (Err e) old new t made u held is took set = tt

set_none : (went : Bool) (t : Timers) → Sets went t t t
set_none true t = refl
set_none false t = refl

-- and of one that does neither
pub timed_beside : (shard : ℕ) (item : Option Item) (r : Result Bool AllocError) (old new : Run) (t : Timers)
    → (is_source old.settings old.log (Shard shard) ≡ true → option_to_list item ≡ orders_in ((shown old).hand_of (Shard shard)))
    → t ≡ after_items t (option_to_list item) → IfOk r (λ went. Took (steps.Drop (Shard shard)) went old new) → OnOk r (IsTimed old t new t)
timed_beside shard item (Ok went) old new t held is took =
    timed_drop shard item went old new t t held took (subst (λ (v : Timers). Sets went t v t) is (set_none went t))
timed_beside shard item (Err e) old new t held is took = tt

-- and the same of what is told in another way
pub timed_as : (r s : Result Bool AllocError) (old new run : Run) (t u v : Timers) → s ≡ r → run ≡ new → v ≡ u → OnOk r (IsTimed old t new u)
    → OnOk s (IsTimed old t run v)
timed_as r s old new run t u v is same kept timed =
    subst (λ (x : Result Bool AllocError). OnOk x (IsTimed old t run v)) (sym is)
    (subst (λ (x : Run). OnOk r (IsTimed old t x v)) (sym same) (subst (λ (x : Timers). OnOk r (IsTimed old t new x)) (sym kept) timed))

-- an item that neither arms nor disarms
pub other_item : (item : Item) (t : Timers) → ((machine generation ticks : ℕ) → item ≡ Arm machine generation ticks → ⊥)
    → ((machine : ℕ) → item ≡ Disarm machine → ⊥) → t ≡ after_items t (item ∷ [])
other_item (Arm machine generation ticks) t no_arm no_disarm = absurd (no_arm machine generation ticks refl)
other_item (Disarm machine) t no_arm no_disarm = absurd (no_disarm machine refl)
other_item (ToMachine item) t no_arm no_disarm = refl
other_item (ToLine item) t no_arm no_disarm = refl
other_item (Dial peer generation) t no_arm no_disarm = refl
other_item (Undial line reason) t no_arm no_disarm = refl

pub ruleset timing = (timed_refl, timed_on, leaves_refl, leaves_on)
