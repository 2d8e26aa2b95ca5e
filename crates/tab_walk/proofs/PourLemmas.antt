-- What of a run was written out, and what waits, as it goes on.
use Rattle.std.proofs.Common.{◌≡◌, ℕ, List, [], ◌∷◌, ◌++◌, Option, refl, ap, sym, ◌∙◌, append_assoc, append-nil, inl, inr, ◌+◌, subst, codes, Err}
use Rattle.std.proofs.KnownBytes.{Appends-nil, Appends-trans}
use Rattle.base_device.specs.Devices.{HasWriteCause, TakesWhole, Tells}
use Rattle.base_device.specs.declared.status.Status.{Status}
use Rattle.tab_step.specs.declared.machine.Event.{Event}
use Rattle.tab_step.specs.declared.machine.MachineState.{MachineState}
use Rattle.tab_step.specs.declared.machine.Stepped.{Stepped}
use Rattle.base_device.specs.declared.status.Status.TheVariants as statuses
use Rattle.tab_walk.specs.Pours.{IsHalted, IsPoured, PoursAll, PoursFront, PutsOut}
use Rattle.tab_walk.specs.declared.pour.Halt.{Halt}
use Rattle.tab_walk.specs.declared.pour.Halt.TheVariants as halts
use Rattle.tab_walk.specs.Walks.{IsRunFrom, IsToldWith, Printing}
use Rattle.tab_walk.proofs.WalkLemmas.{HasRun, HasRun-more, HasRun-start, HasRun-text}

-- nothing was taken
pub TakesWhole-none : {O : Type 0} (contents : O → Option (List ℕ)) (failures idle : O → ℕ) (sink : O) → idle sink ≡ 0 → TakesWhole contents failures idle sink sink []
TakesWhole-none contents failures idle sink busy = record { appended = Appends-nil (contents sink); sound = refl; busy = busy }

-- one text was taken behind the other
pub TakesWhole-more : {O : Type 0} (contents : O → Option (List ℕ)) (failures idle : O → ℕ) (old between new : O) (text more : List ℕ)
    → TakesWhole contents failures idle old between text → TakesWhole contents failures idle between new more → TakesWhole contents failures idle old new (text ++ more)
TakesWhole-more contents failures idle old between new text more first second = record {
  appended = Appends-trans (contents old) (contents between) (contents new) text more first.appended second.appended;
  sound = second.sound ∙ first.sound;
  busy = second.busy;
}

-- a write fault came behind what was taken
pub HasWriteCause-more : {O : Type 0} (contents : O → Option (List ℕ)) (failures idle : O → ℕ) (old between new : O) (text : List ℕ)
    → TakesWhole contents failures idle old between text → HasWriteCause failures idle between new → HasWriteCause failures idle old new
HasWriteCause-more contents failures idle old between new text first (inl failed) = inl (failed ∙ ap (λ n. n + 1) first.sound)
HasWriteCause-more contents failures idle old between new text first (inr idly) = inr (idly.0 ∙ first.sound, idly.1)

-- a text was told behind what was taken
pub Tells-more : {O : Type 0} (contents : O → Option (List ℕ)) (failures idle : O → ℕ) (old between new : O) (text more : List ℕ) (status answer : Status)
    → TakesWhole contents failures idle old between text → Tells contents failures idle between new more status answer → Tells contents failures idle old new (text ++ more) status answer
Tells-more contents failures idle old between new text more status answer first (inl told) =
    inl (TakesWhole-more contents failures idle old between new text more first told.0, told.1)
Tells-more contents failures idle old between new text more status answer first (inr fault) =
    inr (HasWriteCause-more contents failures idle old between new text first fault.0, fault.1)

-- of all events those in front were stepped, and their text was written out but for what waits
pub record Pours
    {O : Type 0} (contents : O → Option (List ℕ)) (failures idle : O → ℕ) (Step : MachineState → Event → Stepped → Type 0) (told : Printing) (start : MachineState) (all left : List Event) (old new : O) (out : List ℕ) (machine : MachineState) : Type 0 where
  pub front : List Event
  pub written : List ℕ
  pub split : all ≡ front ++ left
  pub run : HasRun Step told start front (written ++ out) machine
  pub taken : TakesWhole contents failures idle old new written

pub Pours-start : {O : Type 0} (contents : O → Option (List ℕ)) (failures idle : O → ℕ) (Step : MachineState → Event → Stepped → Type 0) (told : Printing) (start : MachineState) (all left : List Event) (sink : O)
    → left ≡ all → idle sink ≡ 0 → Pours contents failures idle Step told start all left sink sink [] start
Pours-start contents failures idle Step told start all left sink same busy = record {
  front = [];
  written = [];
  split = sym same;
  run = HasRun-start Step told start;
  taken = TakesWhole-none contents failures idle sink busy;
}

-- one more event was stepped
pub Pours-step : {O : Type 0} (contents : O → Option (List ℕ)) (failures idle : O → ℕ) (Step : MachineState → Event → Stepped → Type 0) (told : Printing) (start : MachineState) (all left rest : List Event) (old new : O) (out more : List ℕ) (machine : MachineState) (e : Event) (stepped : Stepped)
    → Pours contents failures idle Step told start all left old new out machine → left ≡ e ∷ rest → Step machine e stepped → more ≡ out ++ told machine e stepped
    → Pours contents failures idle Step told start all rest old new more stepped.after
Pours-step contents failures idle Step told start all left rest old new out more machine e stepped so_far joined is put = record {
  front = so_far.front ++ e ∷ [];
  written = so_far.written;
  split = so_far.split ∙ ap (λ l. so_far.front ++ l) joined ∙ sym (append_assoc so_far.front (e ∷ []) rest);
  run = rw (put, ← append_assoc so_far.written out (told machine e stepped)) (HasRun-more Step told start so_far.front (so_far.written ++ out) machine e stepped so_far.run is);
  taken = so_far.taken;
}

-- some of what waited was written out
pub Pours-put : {O : Type 0} (contents : O → Option (List ℕ)) (failures idle : O → ℕ) (Step : MachineState → Event → Stepped → Type 0) (told : Printing) (start : MachineState) (all left : List Event) (old between new : O) (out waits : List ℕ) (machine : MachineState)
    → Pours contents failures idle Step told start all left old between out machine → PutsOut contents failures idle between new out waits
    → Pours contents failures idle Step told start all left old new waits machine
Pours-put contents failures idle Step told start all left old between new out waits machine so_far put = record {
  front = so_far.front;
  written = so_far.written ++ put.written;
  split = so_far.split;
  run = rw (append_assoc so_far.written put.written waits, ← put.split) so_far.run;
  taken = TakesWhole-more contents failures idle old between new so_far.written put.written so_far.taken put.taken;
}

-- all that waited was written out, and memory ran out
pub Pours-front : {O : Type 0} (contents : O → Option (List ℕ)) (failures idle : O → ℕ) (Step : MachineState → Event → Stepped → Type 0) (told : Printing) (start : MachineState) (all left : List Event) (old between new : O) (out : List ℕ) (machine : MachineState)
    → Pours contents failures idle Step told start all left old between out machine → TakesWhole contents failures idle between new out
    → PoursFront contents failures idle Step told start all old new
Pours-front contents failures idle Step told start all left old between new out machine so_far put = record {
  front = so_far.front;
  back = left;
  text = so_far.written ++ out;
  split = so_far.split;
  run = HasRun-text Step told start so_far.front (so_far.written ++ out) machine so_far.run;
  taken = TakesWhole-more contents failures idle old between new so_far.written out so_far.taken put;
}

-- all that waited was written out, and no event is left
pub Pours-all : {O : Type 0} (contents : O → Option (List ℕ)) (failures idle : O → ℕ) (Step : MachineState → Event → Stepped → Type 0) (told : Printing) (start : MachineState) (all left : List Event) (old between new : O) (out : List ℕ) (machine : MachineState)
    → Pours contents failures idle Step told start all left old between out machine → left ≡ [] → TakesWhole contents failures idle between new out
    → PoursAll contents failures idle Step told start all old new
Pours-all contents failures idle Step told start all left old between new out machine so_far none put =
    let whole : all ≡ so_far.front = so_far.split ∙ ap (λ l. so_far.front ++ l) none ∙ append-nil so_far.front in
    record {
      text = so_far.written ++ out;
      run = rw whole (HasRun-text Step told start so_far.front (so_far.written ++ out) machine so_far.run);
      taken = TakesWhole-more contents failures idle old between new so_far.written out so_far.taken put;
    }

-- one text that is told is another one
pub IsToldWith-map : {O : Type 0} (contents : O → Option (List ℕ)) (failures idle : O → ℕ) (Text Other : List ℕ → Status → Type 0) (old new : O) (answer : Status)
    → ((text : List ℕ) (status : Status) → Text text status → Other text status) → IsToldWith contents failures idle Text old new answer → IsToldWith contents failures idle Other old new answer
IsToldWith-map contents failures idle Text Other old new answer f (inl told) =
    inl (record { text = told.text; is = f told.text answer told.is; taken = told.taken })
IsToldWith-map contents failures idle Text Other old new answer f (inr fault) = inr fault

-- a text that is told with its status
pub IsToldWith-told : {O : Type 0} (contents : O → Option (List ℕ)) (failures idle : O → ℕ) (Text : List ℕ → Status → Type 0) (old new : O) (text : List ℕ) (status answer : Status)
    → Text text status → Tells contents failures idle old new text status answer → IsToldWith contents failures idle Text old new answer
IsToldWith-told contents failures idle Text old new text status answer is (inl told) =
    inl (record { text = text; is = subst (λ (s : Status). Text text s) (sym told.1) is; taken = told.0 })
IsToldWith-told contents failures idle Text old new text status answer is (inr fault) = inr fault

-- a run that ended is told
pub IsToldWith-run : {O : Type 0} (contents : O → Option (List ℕ)) (failures idle : O → ℕ) (Step : MachineState → Event → Stepped → Type 0) (told : Printing) (start : MachineState) (events : List Event) (old new : O)
    → PoursAll contents failures idle Step told start events old new → IsToldWith contents failures idle (IsRunFrom Step told start events) old new statuses.Done
IsToldWith-run contents failures idle Step told start events old new poured =
    inl (record { text = poured.text; is = poured.run; taken = poured.taken })

-- memory ran out, and that was told behind what was printed
pub IsToldWith-halt : {O : Type 0} (contents : O → Option (List ℕ)) (failures idle : O → ℕ) (Step : MachineState → Event → Stepped → Type 0) (told : Printing) (start : MachineState) (events : List Event) (old between new : O) (answer : Status)
    → PoursFront contents failures idle Step told start events old between → Tells contents failures idle between new (codes "no memory\n") statuses.NoMemory answer
    → IsToldWith contents failures idle (IsRunFrom Step told start events) old new answer
IsToldWith-halt contents failures idle Step told start events old between new answer poured told_more =
    IsToldWith-told contents failures idle (IsRunFrom Step told start events) old new (poured.text ++ codes "no memory\n") statuses.NoMemory answer
    (record { front = poured.front; back = poured.back; shown = poured.text; split = poured.split; run = poured.run; joined = refl })
    (Tells-more contents failures idle old between new poured.text (codes "no memory\n") statuses.NoMemory answer poured.taken told_more)

-- what waited was written out since memory ran out, or a write fault came
pub IsPoured-halted : {O : Type 0} (contents : O → Option (List ℕ)) (failures idle : O → ℕ) (Step : MachineState → Event → Stepped → Type 0) (told : Printing) (start : MachineState) (all left : List Event) (old between new : O) (out : List ℕ) (machine : MachineState) (halt : Halt)
    → Pours contents failures idle Step told start all left old between out machine → IsHalted contents failures idle between new out halt
    → IsPoured contents failures idle Step told start all old new (Err halt)
IsPoured-halted contents failures idle Step told start all left old between new out machine halts.NoMemory so_far halted =
    Pours-front contents failures idle Step told start all left old between new out machine so_far halted
IsPoured-halted contents failures idle Step told start all left old between new out machine halts.WriteFault so_far halted =
    HasWriteCause-more contents failures idle old between new so_far.written so_far.taken halted
