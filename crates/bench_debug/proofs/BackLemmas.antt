-- A step that is taken back.
use Rattle.std.proofs.Common.{◌≡◌, Bool, true, false, ◌+◌, ◌-◌, ◌++◌, ◌∷◌, ℕ, List, [], Option, Some, None, refl, sym, ◌∙◌, ap, subst, length, take, arith}
use Rattle.std.specs.Prelude.{is_err, slice_get, slice_index, IsFalse, IsSomeAnd, IsTrue, OnOk, Result, Ok, Err}
use Rattle.std.proofs.Math.Seq.{get_or-append_seam}
use Rattle.std.proofs.lemmas.List.{length-append, take_at}
use Rattle.std.proofs.lemmas.Option.{slice_get-get_or}
use Rattle.bench_item.specs.declared.entry.Entry.{Entry}
use Rattle.bench_item.specs.declared.step.Step.{Step}
use Rattle.bench_spec.specs.Refusal.{refusal}
use Rattle.bench_spec.specs.Taken.{GoesBackTo, Run, Takes}
use Rattle.bench_spec.proofs.BackLemmas.{back_from_step}
use Rattle.debug_text.specs.declared.command.CommandFault.{CommandFault}
use Rattle.debug_text.specs.declared.command.CommandFault.TheVariants.{NoMemory}
use Rattle.script_text.specs.declared.asked.ScriptStep.{ScriptStep}
use Rattle.bench_debug.specs.Asking.{IsRefused, refusal_with, step_of}
use Rattle.bench_debug.specs.Debug.{Advances, Debugging, Refuses, StepsTo, refused_at, with_back, with_taken}

one_less : (xs : List ℕ) (x : ℕ) → length (xs ++ x ∷ []) - 1 ≡ length xs
one_less xs x = let count : length (xs ++ x ∷ []) ≡ length xs + 1 = length-append xs (x ∷ []) in omega arith

last_index : (xs : List ℕ) (x : ℕ) → slice_index (xs ++ x ∷ []) (length (xs ++ x ∷ []) - 1) ≡ x
last_index xs x = rw (one_less xs x) (get_or-append_seam xs x [] 0)

front_of : (xs : List ℕ) (x : ℕ) → take (length (xs ++ x ∷ []) - 1) (xs ++ x ∷ []) ≡ xs
front_of xs x = rw (one_less xs x) (take_at xs (x ∷ []) (length xs) refl)

back_from_taken : (old : Debugging) (world : Run) → with_back (with_taken old world) old.world ≡ old
back_from_taken old world = rw (last_index old.taken old.next, front_of old.taken old.next) refl

-- a step and back is where the debugger stood
pub back_is : (old mid : Debugging) (e : Entry) (world : Run) → StepsTo old mid e → GoesBackTo mid.world world → with_back mid world ≡ old
back_is old mid e world s back =
    let same : world ≡ old.world = (back_from_step old.world mid.world world s.taken.step s.taken.takes back).0 in
    ap (λ (w : Run). with_back mid w) same ∙ ap (λ (d : Debugging). with_back d old.world) s.moved ∙ back_from_taken old mid.world

-- the last of entries
pub last_is : (before : List Entry) (entry : Entry) → slice_get (before ++ entry ∷ []) (length (before ++ entry ∷ []) - 1) ≡ Some entry
last_is before entry =
    let count : length (before ++ entry ∷ []) ≡ length before + 1 = length-append before (entry ∷ []) in
    let last : length (before ++ entry ∷ []) - 1 ≡ length before = omega arith in
    rw last (slice_get-get_or (before ++ entry ∷ []) (length before) entry (omega arith) ∙ ap Some (get_or-append_seam before entry [] entry))

-- the last entry of a world that took a step
pub taken_is : (old new : Run) (step : Step) (takes : Takes old new step) → slice_get new.log (length new.log - 1) ≡ Some takes.entry
taken_is old new step takes =
    ap (λ (log : List Entry). slice_get log (length log - 1)) (ap (λ (r : Run). r.log) takes.grown) ∙ last_is old.log takes.entry

pub moved_by : (world : Run) (d : Debugging) (taken : List ℕ) → taken ≡ d.taken ++ d.next ∷ []
    → record d { world = world; next = d.next + 1; taken = taken } ≡ with_taken d world
moved_by world d taken e = ap (λ (t : List ℕ). record d { world = world; next = d.next + 1; taken = t }) e

pub on_ok : {T E : Type 0} (r : Result T E) (P : Type 0) → is_err r ≡ false → OnOk r P → P
on_ok (Ok x) P e h = h
on_ok (Err x) P e h = absurd cc

-- the step that a script asks for was taken, and its entry is the last one
pub advanced_by : (old new : Debugging) (ask : ScriptStep) (step : Step) → slice_get old.script old.next ≡ Some ask
    → step_of old.world ask ≡ Some step → Takes old.world new.world step → new ≡ with_taken old new.world → Advances old new
advanced_by old new ask step asks asked takes moved = (
  takes.entry,
  record {
    ask = ask;
    asks = asks;
    taken = record { step = step; asked = asked; takes = takes };
    is_entry = refl;
    moved = moved;
  },
)

pub read_back : (old new : Debugging) (e read : Entry) → StepsTo old new e → Some read ≡ slice_get new.world.log (length new.world.log - 1) → StepsTo old new read
read_back old new e read s is =
    let last : Some read ≡ Some e = is ∙ taken_is old.world new.world s.taken.step s.taken.takes ∙ ap Some s.is_entry in
    let same : e ≡ read = cc in
    subst (StepsTo old new) same s

-- a step was refused; or memory was wanting
pub refused_by : (old new : Debugging) (ask : ScriptStep) (fault : CommandFault) → slice_get old.script old.next ≡ Some ask
    → IsRefused old.world ask fault → new ≡ refused_at old fault → Refuses old new fault
refused_by old new ask fault asks refused moved =
    (subst (λ (o : Option ScriptStep). IsSomeAnd o (λ a. IsRefused old.world a fault)) (sym asks) refused, moved)

pub short_at : (old new : Debugging) (ask : ScriptStep) (step : Step) → slice_get old.script old.next ≡ Some ask
    → step_of old.world ask ≡ Some step → refusal old.world.settings old.world.log old.world.paused step ≡ None → new ≡ old
    → Refuses old new NoMemory
short_at old new ask step asks asked could same =
    refused_by old new ask NoMemory asks (ap (λ (o : Option Step). refusal_with old.world o) asked ∙ could) same

-- memory was wanting for the text of a step, which was taken back
pub short_text : (old mid new : Debugging) (e : Entry) → StepsTo old mid e → new ≡ old → Refuses old new NoMemory
short_text old mid new e s same = short_at old new s.ask s.taken.step s.asks s.taken.asked s.taken.takes.could same

no_empty : (xs : List Entry) (x : Entry) → xs ++ x ∷ [] ≡ [] → ⊥
no_empty [] x e = cc
no_empty (y ∷ ys) x e = cc

-- what was taken is taken back: there was a step
pub undone : (old mid new : Debugging) (e : Entry) (did : Bool) → StepsTo old mid e
    → (IsTrue did → GoesBackTo mid.world new.world × (new ≡ with_back mid new.world))
    → (IsFalse did → (mid.world.log ≡ []) × (new ≡ mid))
    → new ≡ old
undone old mid new e true s ok none =
    let back = ok refl in
    back.1 ∙ back_is old mid e new.world s back.0
undone old mid new e false s ok none =
    let empty = (none refl).0 in
    absurd (no_empty old.world.log s.taken.takes.entry (sym (ap (λ (r : Run). r.log) s.taken.takes.grown) ∙ empty))
