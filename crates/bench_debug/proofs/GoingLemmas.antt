-- Steps that a debugger takes one behind the other.
use Rattle.std.proofs.Common.{◌≡◌, ◌<◌, ◌≤◌, ◌+◌, ◌++◌, ◌∷◌, ℕ, Bool, true, false, cond, suc, List, [], Option, Some, None, refl, sym, ◌∙◌, ap, subst, length, drop, filter, ◌-◌, append_assoc, append-nil, below_more, zero, arith}
use Rattle.std.specs.Prelude.{is_some, slice_get, IsSomeAnd}
use Rattle.std.specs.List.{range_with_len}
use Rattle.std.proofs.lemmas.List.{drop-append-le, drop_all, length-append, take-append-le, take_all}
use Rattle.bench_item.specs.declared.entry.Entry.{Entry}
use Rattle.bench_spec.specs.Taken.{Run, with_log}
use Rattle.script_text.specs.declared.asked.ScriptStep.{ScriptStep}
use Rattle.bench_debug.specs.Asking.{TakesAsked}
use Rattle.bench_debug.specs.Debug.{Debugging, Forward, Passed, StepsTo, Stopped, TakesAt, entries_from, place_of, run_at}
use Rattle.bench_debug.specs.Meets.{first_met, stops}
use Rattle.bench_debug.specs.declared.debugger.SetBreakpoint.{SetBreakpoint}

-- what was there at a place is there once more entries came
run_front : (old new : Run) (entries : List Entry) (place : ℕ) → new ≡ with_log old (old.log ++ entries) → place ≤ length old.log
    → run_at new place ≡ run_at old place
run_front old new entries place grown within =
    ap (λ (r : Run). run_at r place) grown ∙ ap (λ (log : List Entry). with_log old log) (take-append-le place old.log entries within)

pub run_whole : (run : Run) (place : ℕ) → length run.log ≡ place → run_at run place ≡ run
run_whole run place e = ap (λ (log : List Entry). with_log run log) (take_all place run.log (omega (arith, e)))

grown_by : (mid new : Debugging) (e : Entry) → StepsTo mid new e → new.world ≡ with_log mid.world (mid.world.log ++ e ∷ [])
grown_by mid new e s = s.taken.takes.grown ∙ ap (λ (x : Entry). with_log mid.world (mid.world.log ++ x ∷ [])) s.is_entry

log_grown : (mid new : Debugging) (e : Entry) → StepsTo mid new e → new.world.log ≡ mid.world.log ++ e ∷ []
log_grown mid new e s = ap (λ (r : Run). r.log) (grown_by mid new e s)

longer : (mid new : Debugging) (e : Entry) → StepsTo mid new e → place_of new ≡ place_of mid + 1
longer mid new e s = ap length (log_grown mid new e s) ∙ length-append mid.world.log (e ∷ [])

range_more : (a n : ℕ) → range_with_len a (suc n) ≡ range_with_len a n ++ (a + n) ∷ []
range_more a zero = let e : a ≡ a + 0 = omega arith in ap (λ (x : ℕ). x ∷ []) e
range_more a (suc n) =
    let rest : range_with_len (a + 1) (suc n) ≡ range_with_len (a + 1) n ++ (a + 1 + n) ∷ [] = range_more (a + 1) n in
    let last : a + 1 + n ≡ a + suc n = omega arith in
    ap (λ (xs : List ℕ). a ∷ xs) (rest ∙ ap (λ (x : ℕ). range_with_len (a + 1) n ++ x ∷ []) last)

taken_more : (taken : List ℕ) (a n : ℕ) → (taken ++ range_with_len a n) ++ (a + n) ∷ [] ≡ taken ++ range_with_len a (n + 1)
taken_more taken a n =
    let next : suc n ≡ n + 1 = omega arith in
    append_assoc taken (range_with_len a n) ((a + n) ∷ [])
    ∙ ap (λ (xs : List ℕ). taken ++ xs) (sym (range_more a n) ∙ ap (λ (m : ℕ). range_with_len a m) next)

-- one step more
forward_more : (old mid new : Debugging) (e : Entry) (count : ℕ) → Forward old mid count → StepsTo mid new e → Forward old new (count + 1)
forward_more old mid new e count f s =
    let grown : new.world ≡ with_log mid.world (mid.world.log ++ e ∷ []) = grown_by mid new e s in
    let one : place_of new ≡ place_of mid + 1 = longer mid new e s in
    let at : place_of mid ≡ place_of old + count = f.place in
    let front : (n : ℕ) → n ≤ place_of mid → run_at new.world n ≡ run_at mid.world n = λ n h. run_front mid.world new.world (e ∷ []) n grown h in
    let early : (k : ℕ) → k < count → TakesAt old new k = λ k h.
    subst (λ (a : Run). IsSomeAnd (slice_get old.script (old.next + k)) (TakesAsked a (run_at new.world (place_of old + k + 1)))) (sym (front (place_of old + k) (omega (arith, at, h))))
    (subst (λ (b : Run). IsSomeAnd (slice_get old.script (old.next + k)) (TakesAsked (run_at mid.world (place_of old + k)) b)) (sym (front (place_of old + k + 1) (omega (arith, at, h)))) (f.each k h)) in
    let asked : slice_get old.script (old.next + count) ≡ Some s.ask =
    sym (ap (λ (xs : List ScriptStep). slice_get xs mid.next) f.script ∙ ap (λ (n : ℕ). slice_get old.script n) f.next) ∙ s.asks in
    let before : mid.world ≡ run_at new.world (place_of old + count) = sym (front (place_of old + count) (omega (arith, at)) ∙ run_whole mid.world (place_of old + count) at) in
    let after : new.world ≡ run_at new.world (place_of old + count + 1) = sym (run_whole new.world (place_of old + count + 1) (omega (arith, one, at))) in
    let last : TakesAt old new count =
    subst (λ (o : Option ScriptStep). IsSomeAnd o (TakesAsked (run_at new.world (place_of old + count)) (run_at new.world (place_of old + count + 1)))) (sym asked)
    (subst (λ (a : Run). TakesAsked a (run_at new.world (place_of old + count + 1)) s.ask) before (subst (λ (b : Run). TakesAsked mid.world b s.ask) after s.taken)) in
    record {
      place = omega (arith, one, at);
      kept = front (place_of old) (omega (arith, at)) ∙ f.kept;
      each = below_more _ _ early last;
      next = ap (λ (d : Debugging). d.next) s.moved ∙ omega (arith, f.next);
      taken = ap (λ (d : Debugging). d.taken) s.moved ∙ ap (λ (xs : List ℕ). xs ++ mid.next ∷ []) f.taken
          ∙ ap (λ (n : ℕ). (old.taken ++ range_with_len old.next count) ++ n ∷ []) f.next
          ∙ taken_more old.taken old.next count;
      script = ap (λ (d : Debugging). d.script) s.moved ∙ f.script;
      set = ap (λ (d : Debugging). d.set) s.moved ∙ f.set;
      numbers = ap (λ (d : Debugging). d.count) s.moved ∙ f.numbers;
    }

-- at first no step was taken
pub passed_start : (d : Debugging) → Passed d d
passed_start d = record {
  count = 0;
  forward = record {
    place = omega arith;
    kept = run_whole d.world (place_of d) refl;
    each = λ k h. absurd (omega (arith, h));
    next = omega arith;
    taken = sym (append-nil d.taken);
    script = refl;
    set = refl;
    numbers = refl;
  };
  none = ap (λ (entries : List Entry). filter (stops d.set) entries) (drop_all (place_of d) d.world.log (omega arith));
}

-- from where no step was taken, to a place
pub forward_start : (d : Debugging) → Forward d d (place_of d - place_of d)
unfolding passed_start
forward_start d =
    let none : 0 ≡ place_of d - place_of d = omega arith in
    subst (Forward d d) none (passed_start d).forward

pub forward_by : (old mid new : Debugging) (e : Entry) → Forward old mid (place_of mid - place_of old) → StepsTo mid new e
    → Forward old new (place_of new - place_of old)
forward_by old mid new e f s =
    let one : place_of new ≡ place_of mid + 1 = longer mid new e s in
    let at : place_of mid ≡ place_of old + (place_of mid - place_of old) = f.place in
    let count : place_of mid - place_of old + 1 ≡ place_of new - place_of old = omega (arith, one, at) in
    subst (Forward old new) count (forward_more old mid new e (place_of mid - place_of old) f s)

pub one_longer : (mid new : Debugging) (e : Entry) → StepsTo mid new e → place_of new ≡ place_of mid + 1
one_longer mid new e s = longer mid new e s

-- what the bench was opened with stays
pub forward_same : (old new : Debugging) (count : ℕ) → Forward old new count → old.world.settings ≡ new.world.settings
forward_same old new count f = sym (ap (λ (r : Run). r.settings) f.kept)

entries_grow : (old mid new : Debugging) (e : Entry) (count : ℕ) → Forward old mid count → StepsTo mid new e
    → entries_from new (place_of old) ≡ entries_from mid (place_of old) ++ e ∷ []
entries_grow old mid new e count f s =
    ap (λ (log : List Entry). drop (place_of old) log) (log_grown mid new e s)
    ∙ drop-append-le (place_of old) mid.world.log (e ∷ []) (omega (arith, f.place))

head_none : (b : Bool) (x : Entry) (xs : List Entry) → cond b (x ∷ xs) xs ≡ [] → (b ≡ false) × (xs ≡ [])
head_none true x xs e = absurd cc
head_none false x xs e = (refl, e)

filter_more : (p : Entry → Bool) (xs : List Entry) (x : Entry) → filter p xs ≡ [] → p x ≡ false → filter p (xs ++ x ∷ []) ≡ []
filter_more p [] x none last = rw last refl
filter_more p (y ∷ ys) x none last =
    let h = head_none (p y) y (filter p ys) none in
    rw h.0 (filter_more p ys x h.1 last)

same_set : (old mid new : Debugging) (e : Entry) → Passed old mid → StepsTo mid new e → new.set ≡ old.set
same_set old mid new e p s = ap (λ (d : Debugging). d.set) s.moved ∙ p.forward.set

-- one more, which meets no breakpoint
pub passed_more : (old mid new : Debugging) (e : Entry) → Passed old mid → StepsTo mid new e → first_met new.set e ≡ None → Passed old new
passed_more old mid new e p s none =
    let missed : stops old.set e ≡ false =
    ap (λ (o : Option ℕ). is_some o) (ap (λ (set : List SetBreakpoint). first_met set e) (sym (same_set old mid new e p s)) ∙ none) in
    record {
      count = p.count + 1;
      forward = forward_more old mid new e p.count p.forward s;
      none = ap (λ (entries : List Entry). filter (stops old.set) entries) (entries_grow old mid new e p.count p.forward s)
          ∙ filter_more (stops old.set) (entries_from mid (place_of old)) e p.none missed;
    }

-- one more, which meets one
pub stopped_by : (old mid new : Debugging) (e : Entry) (place number : ℕ) → Passed old mid → StepsTo mid new e → first_met new.set e ≡ Some number
    → place ≡ place_of new → Stopped old new place number
stopped_by old mid new e place number p s met at = record {
  count = p.count + 1;
  forward = forward_more old mid new e p.count p.forward s;
  stops_by = record {
    before = entries_from mid (place_of old);
    last = e;
    split = entries_grow old mid new e p.count p.forward s;
    none_before = p.none;
    met = ap (λ (set : List SetBreakpoint). first_met set e) (sym (same_set old mid new e p s)) ∙ met;
  };
  at = at;
}
