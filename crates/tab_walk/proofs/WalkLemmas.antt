-- Runs and what they print, as they go on; and what a walk is by its parts.
use Rattle.std.proofs.Common.{◌≡◌, ℕ, Bool, true, false, List, [], ◌∷◌, ◌++◌, length, Option, Some, None, refl, ap, sym, ◌∙◌, arith, append_assoc, append-nil, inl, inr, cond, get_or, drop, zero, suc, ◌+◌, ◌<◌, ◌≤◌}
use Rattle.std.specs.List.{slice_get}
use Rattle.std.proofs.lemmas.List.{drop-drop}
use Rattle.std.proofs.Math.ListN.{drop_of_length-le}
use Rattle.hex.specs.Hex.{is_hex_digit}
use Rattle.base_text.specs.Digits.{is_blank}
use Rattle.tab_law.specs.Books.{Laws}
use Rattle.tab_text.specs.Contents.{Contents}
use Rattle.tab_text.specs.Faults.{first_fault}
use Rattle.tab_text.specs.Reader.{IsRefusal}
use Rattle.tab_text.specs.Rows.{table_of}
use Rattle.tab_text.specs.declared.fault.ParseError.{ParseError}
use Rattle.tab_text.specs.declared.fault.ParseError.TheVariants as parsing
use Rattle.tab_text.specs.declared.fault.TextFault.{TextFault}
use Rattle.tab_step.specs.Bind.{IsUnbound, missing}
use Rattle.tab_step.proofs.RunLemmas.{last_state, last_state-more}
use Rattle.tab_step.specs.declared.binding.Unbound.{Unbound}
use Rattle.tab_step.specs.declared.binding.Unbound.TheVariants as binding
use Rattle.tab_step.specs.declared.machine.Event.{Event}
use Rattle.tab_step.specs.declared.machine.MachineState.{MachineState}
use Rattle.tab_step.specs.declared.machine.Stepped.{Stepped}
use Rattle.base_device.specs.declared.status.Status.{Status}
use Rattle.base_device.specs.declared.status.Status.TheVariants as statuses
use Rattle.fault_text.specs.Spots.{unbound_place}
use Rattle.tab_walk.specs.declared.start.WalkOptions.{WalkOptions}
use Rattle.tab_walk.specs.Walks.{AreSteps, Printing, is_image, IsRefused, IsRunFrom, IsRunOver, IsWalked, IsWalkedOf, RunText, StepByRows, bind_text, parse_text, steps_text, table_rows, told_text}

-- there is one step for each event
AreSteps-length : (Step : MachineState → Event → Stepped → Type 0) (s : MachineState) (events : List Event) (steps : List Stepped) → AreSteps Step s events steps → length steps ≡ length events
AreSteps-length Step s [] [] are = refl
AreSteps-length Step s (e ∷ events) (step ∷ steps) are =
    let rest = AreSteps-length Step step.after events steps are.1 in
    omega arith
AreSteps-length Step s [] (step ∷ steps) are = absurd are
AreSteps-length Step s (e ∷ events) [] are = absurd are

-- steps go on by one more
AreSteps-more : (Step : MachineState → Event → Stepped → Type 0) (s : MachineState) (events : List Event) (steps : List Stepped) (e : Event) (stepped : Stepped) → AreSteps Step s events steps → Step (last_state s steps) e stepped → AreSteps Step s (events ++ e ∷ []) (steps ++ stepped ∷ [])
AreSteps-more Step s [] [] e stepped are more = (more, tt)
AreSteps-more Step s [] (x ∷ steps) e stepped are more = absurd are
AreSteps-more Step s (x ∷ events) [] e stepped are more = absurd are
AreSteps-more Step s (x ∷ events) (y ∷ steps) e stepped are more = (are.0, AreSteps-more Step y.after events steps e stepped are.1 more)

-- the text of one more step
steps_text-more : (told : Printing) (s : MachineState) (events : List Event) (steps : List Stepped) (e : Event) (stepped : Stepped) → length steps ≡ length events
    → steps_text told s (events ++ e ∷ []) (steps ++ stepped ∷ []) ≡ steps_text told s events steps ++ told (last_state s steps) e stepped
steps_text-more told s [] [] e stepped same = append-nil (told s e stepped)
steps_text-more told s [] (y ∷ steps) e stepped same = absurd (omega (arith, same))
steps_text-more told s (x ∷ events) [] e stepped same = absurd (omega (arith, same))
steps_text-more told s (x ∷ events) (y ∷ steps) e stepped same =
    let first = told s x y in
    let rest = steps_text told y.after events steps in
    ap (λ text. first ++ text) (steps_text-more told y.after events steps e stepped (omega (arith, same)))
    ∙ sym (append_assoc first rest (told (last_state y.after steps) e stepped))

-- steps over these events are printed, and the machine stands where the last of them left it
pub record HasRun (Step : MachineState → Event → Stepped → Type 0) (told : Printing) (start : MachineState) (events : List Event) (text : List ℕ) (machine : MachineState) : Type 0 where
  pub steps : List Stepped
  pub run : AreSteps Step start events steps
  pub printed : text ≡ steps_text told start events steps
  pub at : machine ≡ last_state start steps

pub HasRun-start : (Step : MachineState → Event → Stepped → Type 0) (told : Printing) (start : MachineState) → HasRun Step told start [] [] start
HasRun-start Step told start = record { steps = []; run = tt; printed = refl; at = refl }

-- one more step is printed
pub HasRun-more : (Step : MachineState → Event → Stepped → Type 0) (told : Printing) (start : MachineState) (events : List Event) (text : List ℕ) (machine : MachineState) (e : Event) (stepped : Stepped) → HasRun Step told start events text machine
    → Step machine e stepped → HasRun Step told start (events ++ e ∷ []) (text ++ told machine e stepped) stepped.after
HasRun-more Step told start events text machine e stepped has is =
    let same = AreSteps-length Step start events has.steps has.run in
    let more = steps_text-more told start events has.steps e stepped same in
    record {
      steps = has.steps ++ stepped ∷ [];
      run = AreSteps-more Step start events has.steps e stepped has.run (rw (← has.at) is);
      printed = rw (more, ← has.at, ← has.printed) refl;
      at = rw (last_state-more start has.steps stepped) refl;
    }

-- what was printed is the text of a run
pub HasRun-text : (Step : MachineState → Event → Stepped → Type 0) (told : Printing) (start : MachineState) (events : List Event) (text : List ℕ) (machine : MachineState) → HasRun Step told start events text machine → RunText Step told start events text
HasRun-text Step told start events text machine has = record { steps = has.steps; run = has.run; printed = has.printed }

fault_is : (first : Option TextFault) (fault : TextFault) → IsRefusal first (parsing.Fault fault) → first ≡ Some fault
fault_is None fault refusal = absurd (cc)
fault_is (Some other) fault refusal = cc

-- the table's text has a fault
pub IsWalked-unparsed : (laws : Laws) (options : WalkOptions) (table events text : List ℕ) (status : Status) (error : ParseError) → IsRefusal (first_fault table) error
    → IsRefused (parse_text laws table error) text status → IsWalked laws options table events text status
IsWalked-unparsed laws options table events text status error refusal (inr short) = inl (inr short)
IsWalked-unparsed laws options table events text status parsing.NoMemory refusal (inl is) = let none = is.0 in absurd (cc)
IsWalked-unparsed laws options table events text status (parsing.Fault fault) refusal (inl is) =
    inl (inl (rw (fault_is _ fault refusal) is.0, is.1))

-- the book lacks a name
pub IsWalked-unbound : (laws : Laws) (options : WalkOptions) (table events text : List ℕ) (status : Status) (why : Unbound) → first_fault table ≡ None
    → IsUnbound (slice_get (missing laws (table_of table)) 0) why → IsRefused (bind_text laws (unbound_place laws (table_of table)) why) text status → IsWalked laws options table events text status
IsWalked-unbound laws options table events text status why sound unbound (inr short) = inl (inr short)
IsWalked-unbound laws options table events text status binding.NoMemory sound unbound (inl is) = let none = is.0 in absurd (cc)
IsWalked-unbound laws options table events text status (binding.Missing name) sound unbound (inl is) =
    inl (inl (rw (sound, unbound) is.0, is.1))

-- the table is bound
pub IsWalked-bound : (laws : Laws) (options : WalkOptions) (table events text : List ℕ) (status : Status) (bound : Contents) → bound ≡ table_of table → first_fault table ≡ None → missing laws (table_of table) ≡ []
    → IsRunOver (StepByRows bound laws) (told_text options.why bound.states (table_rows bound laws) laws) bound.states laws options events text status → IsWalked laws options table events text status
IsWalked-bound laws options table events text status bound same sound found over =
    inr (rw (sound, found) refl, rw same at over)

-- whether a text is that of an image is said by its first character that is no blank
is_image-at : (text : List ℕ) (at : ℕ) → at < length text → is_image (drop at text) ≡ cond (is_blank (get_or text at 0)) (is_image (drop 1 (drop at text))) (is_hex_digit (get_or text at 0))
is_image-at [] at inside = absurd (omega (arith, inside))
is_image-at (c ∷ text) zero inside = refl
is_image-at (c ∷ text) (suc at) inside = is_image-at text at (omega (arith, inside))

pub is_image-blank : (text : List ℕ) (at : ℕ) → at < length text → is_blank (get_or text at 0) ≡ true → is_image (drop at text) ≡ is_image (drop (at + 1) text)
is_image-blank text at inside blank =
    is_image-at text at inside ∙ ap (λ (b : Bool). cond b (is_image (drop 1 (drop at text))) (is_hex_digit (get_or text at 0))) blank
    ∙ ap is_image (drop-drop 1 at text)

pub is_image-first : (text : List ℕ) (at : ℕ) → at < length text → is_blank (get_or text at 0) ≡ false → is_image (drop at text) ≡ is_hex_digit (get_or text at 0)
is_image-first text at inside blank =
    is_image-at text at inside ∙ ap (λ (b : Bool). cond b (is_image (drop 1 (drop at text))) (is_hex_digit (get_or text at 0))) blank

pub is_image-none : (text : List ℕ) (at : ℕ) → length text ≤ at → is_image (drop at text) ≡ false
is_image-none text at end = ap is_image (drop_of_length-le text end)

-- a walk's text has neither the status of refused words nor that of a fault
abbrev pub Ends : Status → Type 0
Ends status = (status ≡ statuses.Usage → ⊥) × (status ≡ statuses.Fault → ⊥)

IsRefused-ends : (wanted : Option (List ℕ)) (text : List ℕ) (status : Status) → IsRefused wanted text status → Ends status
IsRefused-ends wanted text status (inl is) = (λ usage. absurd (let e = is.1 in cc), λ fault. absurd (let e = is.1 in cc))
IsRefused-ends wanted text status (inr is) = (λ usage. absurd (let e = is.1 in cc), λ fault. absurd (let e = is.1 in cc))

IsRunFrom-ends : (Step : MachineState → Event → Stepped → Type 0) (told : Printing) (start : MachineState) (events : List Event) (text : List ℕ) (status : Status) → IsRunFrom Step told start events text status → Ends status
IsRunFrom-ends Step told start events text statuses.Done is = (λ usage. absurd (cc), λ fault. absurd (cc))
IsRunFrom-ends Step told start events text statuses.NoMemory is = (λ usage. absurd (cc), λ fault. absurd (cc))
IsRunFrom-ends Step told start events text statuses.Refused is = absurd is
IsRunFrom-ends Step told start events text statuses.Usage is = absurd is
IsRunFrom-ends Step told start events text statuses.Fault is = absurd is
IsRunFrom-ends Step told start events text statuses.Disagreed is = absurd is

IsRunOver-ends : (Step : MachineState → Event → Stepped → Type 0) (told : Printing) (names : List (List ℕ)) (laws : Laws) (options : WalkOptions) (events text : List ℕ) (status : Status) → IsRunOver Step told names laws options events text status → Ends status
IsRunOver-ends Step told names laws options events text status (inl refused) = IsRefused-ends _ text status refused
IsRunOver-ends Step told names laws options events text status (inr is) = IsRunFrom-ends Step told is.1 _ text status is.3

pub IsWalkedOf-ends : (image : Bool) (laws : Laws) (options : WalkOptions) (input events text : List ℕ) (status : Status) → IsWalkedOf image laws options input events text status → Ends status
IsWalkedOf-ends true laws options input events text status (inl no_image) = IsRefused-ends _ text status no_image.2
IsWalkedOf-ends true laws options input events text status (inr is) = IsRunOver-ends _ _ _ laws options events text status is.2
IsWalkedOf-ends false laws options input events text status (inl refused) = IsRefused-ends _ text status refused
IsWalkedOf-ends false laws options input events text status (inr is) = IsRunOver-ends _ _ _ laws options events text status is.1
