-- Steps that are taken back down to a place.
use Rattle.std.proofs.Common.{◌≡◌, Bool, true, false, ◌<◌, ◌≤◌, ◌+◌, ◌-◌, ◌++◌, ◌∷◌, ℕ, List, [], refl, sym, ◌∙◌, ap, length, take, suc, arith}
use Rattle.std.specs.Prelude.{IsFalse, IsTrue, reverse, slice_index}
use Rattle.std.proofs.Math.Seq.{take-length}
use Rattle.std.proofs.lemmas.List.{length-append, take-take, take_at}
use Rattle.bench_item.specs.declared.entry.Entry.{Entry}
use Rattle.bench_spec.specs.Taken.{GoesBackTo, Run, with_log}
use Rattle.bench_debug.specs.Debug.{Debugging, gone_back, place_of, run_at, with_back}
use Rattle.bench_debug.proofs.GoingLemmas.{run_whole}
use Rattle.bench_debug.proofs.PlaceLemmas.{last_left, left_less}

-- a debugger that stands elsewhere
moved_to : Debugging → Run → ℕ → List ℕ → Debugging
moved_to d world next taken = record d { world = world; next = next; taken = taken }

same_parts : (d : Debugging) (world world' : Run) (next next' : ℕ) (taken taken' : List ℕ)
    → world ≡ world' → next ≡ next' → taken ≡ taken' → moved_to d world next taken ≡ moved_to d world' next' taken'
same_parts d world world' next next' taken taken' w n t = cc

-- where it stands it is
pub back_here : (d : Debugging) → d ≡ gone_back d (place_of d)
unfolding moved_to
back_here d =
    let none : place_of d - place_of d ≡ 0 = omega arith in
    let whole : length d.taken - (place_of d - place_of d) ≡ length d.taken = omega arith in
    sym (same_parts d _ d.world _ d.next _ d.taken
    (run_whole d.world (place_of d) refl)
    (ap (λ (n : ℕ). slice_index (d.next ∷ reverse d.taken) n) none)
    (ap (λ (n : ℕ). take n d.taken) whole ∙ take-length d.taken))

-- the bench before the last step
front_is : (log : List Entry) (e : Entry) (front : List Entry) → log ≡ front ++ e ∷ [] → take (length log - 1) log ≡ front
front_is log e front is =
    let count : length log ≡ length front + 1 = ap length is ∙ length-append front (e ∷ []) in
    let less : length log - 1 ≡ length front = omega (arith, count) in
    ap (λ (n : ℕ). take n log) less ∙ ap (λ (xs : List Entry). take (length front) xs) is ∙ take_at front (e ∷ []) (length front) refl

run_before : (old new : Run) → GoesBackTo old new → run_at old (length old.log - 1) ≡ new
run_before old new back =
    let grown : old ≡ with_log new (new.log ++ back.entry ∷ []) = back.grown in
    let log : old.log ≡ new.log ++ back.entry ∷ [] = ap (λ (r : Run). r.log) grown in
    ap (λ (xs : List Entry). with_log old xs) (front_is old.log back.entry new.log log)
    ∙ ap (λ (r : Run). with_log r new.log) grown

pub one_less : (old new : Run) → GoesBackTo old new → length new.log + 1 ≡ length old.log
one_less old new back =
    sym (ap (λ (r : Run). length r.log) back.grown ∙ length-append new.log (back.entry ∷ []))

-- one step less
step_back : (d mid : Debugging) (world : Run) → place_of mid ≤ place_of d → mid ≡ gone_back d (place_of mid)
    → GoesBackTo mid.world world → with_back mid world ≡ gone_back d (place_of mid - 1)
unfolding moved_to
step_back d mid world within is back =
    let few : length world.log + 1 ≡ place_of mid = one_less mid.world world back in
    let mid_world : mid.world ≡ run_at d.world (place_of mid) = ap (λ (x : Debugging). x.world) is in
    let mid_taken : mid.taken ≡ take (length d.taken - (place_of d - place_of mid)) d.taken = ap (λ (x : Debugging). x.taken) is in
    let more : suc (place_of d - place_of mid) ≡ place_of d - (place_of mid - 1) = omega (arith, few, within) in
    let more' : place_of d - place_of mid + 1 ≡ place_of d - (place_of mid - 1) = omega (arith, few, within) in
    let world_is : world ≡ run_at d.world (place_of mid - 1) =
    sym (run_before mid.world world back)
    ∙ ap (λ (r : Run). run_at r (place_of mid - 1)) mid_world
    ∙ ap (λ (log : List Entry). with_log d.world log) (take-take (place_of mid - 1) (place_of mid) d.world.log (omega arith)) in
    let next_is : slice_index mid.taken (length mid.taken - 1) ≡ slice_index (d.next ∷ reverse d.taken) (place_of d - (place_of mid - 1)) =
    ap (λ (xs : List ℕ). slice_index xs (length xs - 1)) mid_taken
    ∙ last_left d.taken (place_of d - place_of mid)
    ∙ ap (λ (n : ℕ). slice_index (d.next ∷ reverse d.taken) n) more in
    let taken_is : take (length mid.taken - 1) mid.taken ≡ take (length d.taken - (place_of d - (place_of mid - 1))) d.taken =
    ap (λ (xs : List ℕ). take (length xs - 1) xs) mid_taken
    ∙ left_less d.taken (place_of d - place_of mid)
    ∙ ap (λ (n : ℕ). take (length d.taken - n) d.taken) more' in
    ap (λ (x : Debugging). moved_to x world (slice_index mid.taken (length mid.taken - 1)) (take (length mid.taken - 1) mid.taken)) is
    ∙ same_parts d world _ _ _ _ _ world_is next_is taken_is

no_entries : (log : List Entry) → log ≡ [] → 0 < length log → ⊥
no_entries log none some = let zero : length log ≡ 0 = ap length none in absurd (omega (arith, zero, some))

-- one turn: there was a step, and it was taken back
pub turn_back : (d mid new : Debugging) (did : Bool) → place_of mid ≤ place_of d → mid ≡ gone_back d (place_of mid) → 0 < place_of mid
    → (IsTrue did → GoesBackTo mid.world new.world × (new ≡ with_back mid new.world))
    → (IsFalse did → (mid.world.log ≡ []) × (new ≡ mid))
    → (place_of new + 1 ≡ place_of mid) × (new ≡ gone_back d (place_of new))
turn_back d mid new true within is some ok none =
    let back = ok refl in
    let few : place_of new + 1 ≡ place_of mid = one_less mid.world new.world back.0 in
    let less : place_of mid - 1 ≡ place_of new = omega (arith, few) in (
      few,
      back.1 ∙ step_back d mid new.world within is back.0 ∙ ap (gone_back d) less,
    )
turn_back d mid new false within is some ok none = absurd (no_entries mid.world.log (none refl).0 some)
