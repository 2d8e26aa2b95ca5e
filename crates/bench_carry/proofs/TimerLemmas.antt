-- Timers that are armed and disarmed: places for what records set again.
use Rattle.std.proofs.Common.{◌≡◌, ℕ, Bool, true, false, ◌||◌, cond, Option, Some, None, refl, sym, ◌∙◌, ap, subst, nat_eq, eqb-true, arith}
use Rattle.std.specs.Prelude.{◌==◌, IsTrue}
use Rattle.std.specs.Cmp.{nat_cmp_total, unsigned_tied}
use Rattle.std.specs.FinMap as map
use Rattle.std.specs.FinSet as set
use Rattle.std.specs.Ordering.{nat_cmp}
use Rattle.std.proofs.lemmas.Bool.Decides.{nat_tests}
use Rattle.bench_undo.specs.declared.undo.Arrival.TheVariants as arrivals
use Rattle.bench_undo.specs.declared.undo.Undo.{Undo}
use Rattle.bench_undo.specs.declared.undo.Undo.TheVariants.{Dropped, Fired, Lifted, Lines, Opened, Told, Worked}
use Rattle.tick_wheel.specs.declared.timer.Armed.{Armed}
use Rattle.tick_wheel.specs.Timers.{ByOwner, Timers, after_arm, moment_after, with_timer, with_timer_of}
use Rattle.tick_wheel.proofs.CallerLemmas.{get-with_timer, with_timer-back}
use Rattle.tick_wheel.proofs.PlaceLemmas.{same_armed}
use Rattle.bench_carry.specs.Placed.{IsPlaced}

-- a machine that is put among others has its place, and they keep theirs
same_test : (a : ℕ) → (a == a) ≡ true
same_test a = grind (arith, nat_tests)

pub place-new : (places : set.FinSet nat_cmp) (k : ℕ) → IsTrue (set.contains (set.insert places k) k)
place-new places k = set.contains-insert nat_cmp_total places k k ∙ ap (λ b. b || set.contains places k) (unsigned_tied k k ∙ same_test k)

pub place-kept : (places : set.FinSet nat_cmp) (k q : ℕ) → IsTrue (set.contains places q) → IsTrue (set.contains (set.insert places k) q)
place-kept places k q there =
    set.contains-insert nat_cmp_total places k q ∙ ap (λ b. b || set.contains places q) (unsigned_tied q k) ∙ by (q == k)
  where
    by : (b : Bool) → (b || set.contains places q) ≡ true
    by true = refl
    by false = there

-- where no machine loses its place, records stay placed
pub placed-kept : (old new : Timers) (undo : Undo) → ((k : ℕ) → IsTrue (set.contains old.places k) → IsTrue (set.contains new.places k))
    → IsPlaced old undo → IsPlaced new undo
placed-kept old new Opened keeps placed = tt
placed-kept old new (Lines change) keeps placed = tt
placed-kept old new (Told desk) keeps placed = tt
placed-kept old new (Fired machine timer posted) keeps placed = keeps machine placed
placed-kept old new (Lifted source) keeps placed = tt
placed-kept old new (Dropped source (arrivals.Shard shard)) keeps placed = tt
placed-kept old new (Dropped source (arrivals.Lines change)) keeps placed = tt
placed-kept old new (Dropped source arrivals.Opened) keeps placed = tt
placed-kept old new (Dropped source (arrivals.Timer machine timer)) keeps placed = keeps machine placed
placed-kept old new (Worked shard change page booked) keeps placed = tt

pub placed-armed : (old new : Timers) (machine generation ticks : ℕ) (undo : Undo) → new ≡ after_arm old machine generation ticks
    → IsPlaced old undo → IsPlaced new undo
placed-armed old new machine generation ticks undo is placed =
    placed-kept old new undo (λ k there. subst (λ w. IsTrue (set.contains w.places k)) (sym is)
    (place-kept old.places machine k there)) placed

-- a machine whose timer is not armed: to disarm it changes nothing
pub disarmed-none : (armed : ByOwner) (machine : ℕ) → map.get armed machine ≡ None → armed ≡ with_timer armed machine None
disarmed-none armed machine none =
    same_armed armed (with_timer armed machine None) (λ q. by q (nat_eq q machine) refl ∙ sym (get-with_timer armed machine None q))
  where
    by : (q : ℕ) (b : Bool) → nat_eq q machine ≡ b → map.get armed q ≡ cond (nat_eq q machine) None (map.get armed q)
    by q true same = ap (map.get armed) (eqb-true q machine same) ∙ none ∙ sym (ap (λ b. cond b None (map.get armed q)) same)
    by q false differ = sym (ap (λ b. cond b None (map.get armed q)) differ)

-- a timer that was armed, or disarmed, gets back what it was
pub armed-back : (old new : Timers) (machine generation ticks : ℕ) (before : Option Armed) → new ≡ after_arm old machine generation ticks
    → before ≡ map.get old.armed machine → with_timer new.armed machine before ≡ old.armed
armed-back old new machine generation ticks before is had =
    ap (λ w. with_timer w.armed machine before) is ∙ ap (with_timer (after_arm old machine generation ticks).armed machine) had
    ∙ with_timer-back old.armed machine (Some (record { generation = generation; due = moment_after old.moment ticks }))

pub disarmed-back : (old new : Timers) (machine : ℕ) (before : Option Armed) → new ≡ with_timer_of old machine None
    → before ≡ map.get old.armed machine → with_timer new.armed machine before ≡ old.armed
disarmed-back old new machine before is had =
    ap (λ w. with_timer w.armed machine before) is ∙ ap (with_timer (with_timer old.armed machine None) machine) had
    ∙ with_timer-back old.armed machine None

-- a wheel on which nothing is disarmed
pub same-disarmed : (old : Timers) (machine : ℕ) → None ≡ map.get old.armed machine → old ≡ with_timer_of old machine None
same-disarmed old machine none =
    ap (λ armed. let w : Timers = record { moment = old.moment; armed = armed; places = old.places } in w)
    (disarmed-none old.armed machine (sym none))
