use Rattle.std.proofs.Common.{◌≡◌, ℕ, ◌+◌, ◌-◌, ◌≤◌, ◌&&◌, suc, zero, Bool, true, false, not, cond, All, List, [], ◌∷◌, ◌++◌, Option, Some, None, length, map, take, drop, replicate, refl, sym, ap, subst, ◌∙◌, ◌⊎◌, inl, inr}
use Rattle.std.specs.List.{slice_index_or}
use Rattle.std.proofs.lemmas.List.{append-nil, append_assoc, length-append, flat_map_more, length-take-le}
use Rattle.std.proofs.lemmas.List.Elements.{All-append, All-cons, All-nil}
use Rattle.std.proofs.Math.Seq.{take-add, take-append_seam}
use Rattle.tab_asm.specs.Formats.{Instruction, BeginRow, TestGuard, RunAction, GoTo, NoRow, octets_of, code_of}
use Rattle.tab_load.specs.Faults.{format_of}
use Rattle.tab_load.specs.Code.{instruction_of, Fits, instructions_of, size_of, counted, count_behind, is_in_range, is_in_row, is_forward, instruction_fault, EachAfter, IsFine, AreFine, is_landing, landings, NextWrong, octets_fault}
use Rattle.tab_load.specs.declared.counts.Counts.{Counts}
use Rattle.tab_load.specs.declared.counts.Format.{Format}
use Rattle.tab_load.specs.declared.counts.Format.TheVariants.{One, Two}
use Rattle.tab_load.specs.declared.instruction.CodeInstruction.{CodeInstruction}
use Rattle.tab_load.specs.declared.fault.ImageFault.{ImageFault}
use Rattle.tab_load.specs.declared.fault.ImageFault.TheVariants.{Count, BackJump}

-- a front that grows by what stands behind it
pub front-more : (all : List ℕ) (at n : ℕ) (front more rest : List ℕ) → take at all ≡ front → drop at all ≡ more ++ rest → length more ≡ n → take (at + n) all ≡ front ++ more
front-more all at n front more rest is next long =
    take-add at n all ∙ rw (is, next, ← long) (ap (λ (octets : List ℕ). front ++ octets) (take-append_seam more rest))

-- one more, behind those before it
pub EachAfter-more : {X : Type 0} (P : List X → X → Type 0) (before xs : List X) (x : X) → EachAfter P before xs → P (before ++ xs) x → EachAfter P before (xs ++ x ∷ [])
EachAfter-more P before [] x each more = (subst (λ (all : _). P all x) (append-nil before) more, tt)
EachAfter-more P before (y ∷ xs) x each more =
    (each.0, EachAfter-more P (before ++ y ∷ []) xs x each.1 (subst (λ (all : _). P all x) (sym (append_assoc before (y ∷ []) xs)) more))

-- actions behind one more instruction
pub count-more : (count : Option ℕ) (instructions : List Instruction) (instruction : Instruction) → count_behind count (instructions ++ instruction ∷ []) ≡ counted (count_behind count instructions) instruction
count-more count [] instruction = refl
count-more count (first ∷ instructions) instruction = count-more (counted count first) instructions instruction

-- how many octets an instruction has
pub size-is : (format : Format) (instruction : Instruction) → size_of format (slice_index_or (octets_of (format_of format) instruction) 0 0) ≡ length (octets_of (format_of format) instruction)
size-is One (BeginRow row) = refl
size-is One (TestGuard guard otherwise) = refl
size-is One (RunAction action) = refl
size-is One (GoTo state) = refl
size-is One NoRow = refl
size-is Two (BeginRow row) = refl
size-is Two (TestGuard guard otherwise) = refl
size-is Two (RunAction action) = refl
size-is Two (GoTo state) = refl
size-is Two NoRow = refl

-- what is first behind a front
pub get_or-drop-0 : (code : List ℕ) (at : ℕ) → slice_index_or (drop at code) 0 0 ≡ slice_index_or code at 0
get_or-drop-0 code zero = refl
get_or-drop-0 [] (suc at) = refl
get_or-drop-0 (x ∷ code) (suc at) = get_or-drop-0 code at

-- and by the octets that begin with it
pub size-at : (format : Format) (instruction : Instruction) (code : List ℕ) (at : ℕ) (rest : List ℕ) → drop at code ≡ octets_of (format_of format) instruction ++ rest → size_of format (slice_index_or code at 0) ≡ length (octets_of (format_of format) instruction)
size-at format instruction code at rest is =
    let first : slice_index_or (drop at code) 0 0 ≡ slice_index_or code at 0 = get_or-drop-0 code at in
    let same : slice_index_or (octets_of (format_of format) instruction ++ rest) 0 0 ≡ slice_index_or (octets_of (format_of format) instruction) 0 0 = head-of instruction in
    ap (size_of format) (sym first ∙ ap (λ (octets : List ℕ). slice_index_or octets 0 0) is ∙ same) ∙ size-is format instruction
  where
    head-of : (one : Instruction) → slice_index_or (octets_of (format_of format) one ++ rest) 0 0 ≡ slice_index_or (octets_of (format_of format) one) 0 0
    head-of (BeginRow row) = refl
    head-of (TestGuard guard otherwise) = refl
    head-of (RunAction action) = refl
    head-of (GoTo state) = refl
    head-of NoRow = refl

map-more : {A B : Type 0} (f : A → B) (xs : List A) (x : A) → map f (xs ++ x ∷ []) ≡ map f xs ++ f x ∷ []
map-more f [] x = refl
map-more {B = B} f (y ∷ xs) x = ap (λ (r : List B). f y ∷ r) (map-more f xs x)

-- an instruction without a fault stands in a row
pub in-row : (counts : Counts) (count : Option ℕ) (behind : ℕ) (instruction : Instruction) → instruction_fault counts count behind instruction ≡ None → is_in_row count instruction ≡ true
in-row counts count behind instruction none =
    by_tests (is_in_range counts instruction) (is_in_row count instruction) refl refl none
  where
    by_tests : (range row : Bool) → is_in_range counts instruction ≡ range → is_in_row count instruction ≡ row → cond (not (range && row)) (Some Count) (cond (is_forward behind instruction) None (Some BackJump)) ≡ None → is_in_row count instruction ≡ true
    by_tests true true range row none = row
    by_tests true false range row none = cc
    by_tests false row range is none = cc

-- the offset behind one more instruction
pub code-more : (format : Format) (instructions : List Instruction) (instruction : Instruction) → code_of (format_of format) (instructions ++ instruction ∷ []) ≡ code_of (format_of format) instructions ++ octets_of (format_of format) instruction
code-more format instructions instruction = sym (flat_map_more (octets_of (format_of format)) [] instructions instruction)

-- the code as far as it was read, with one more instruction
pub record IsMore (format : Format) (counts : Counts) (code : List ℕ) (at size : ℕ) (steps : List CodeInstruction) (step : CodeInstruction) : Type 0 where
  pub front : take (at + size) code ≡ code_of (format_of format) (instructions_of (steps ++ step ∷ []))
  pub fine : AreFine format counts (instructions_of (steps ++ step ∷ []))
  pub count : count_behind None (instructions_of (steps ++ step ∷ [])) ≡ counted (count_behind None (instructions_of steps)) (instruction_of step)
  pub marks : landings format (instructions_of (steps ++ step ∷ [])) ≡ landings format (instructions_of steps) ++ is_landing (instruction_of step) ∷ replicate (size - 1) false

-- where one more instruction ends
ends-at : (format : Format) (code : List ℕ) (at size : ℕ) (instructions : List Instruction) (instruction : Instruction) → take at code ≡ code_of (format_of format) instructions → at ≤ length code → length (octets_of (format_of format) instruction) ≡ size → length (code_of (format_of format) (instructions ++ instruction ∷ [])) ≡ at + size
ends-at format code at size instructions instruction front inside long =
    let before : length (code_of (format_of format) instructions) ≡ at = sym (ap length front) ∙ length-take-le at code inside in
    ap length (code-more format instructions instruction) ∙ length-append (code_of (format_of format) instructions) (octets_of (format_of format) instruction) ∙ rw (before, long) refl

pub is-more : (format : Format) (counts : Counts) (code : List ℕ) (at size : ℕ) (steps : List CodeInstruction) (step : CodeInstruction) (rest : List ℕ) (count : Option ℕ) → take at code ≡ code_of (format_of format) (instructions_of steps) → at ≤ length code → AreFine format counts (instructions_of steps) → count ≡ count_behind None (instructions_of steps) → size ≡ size_of format (slice_index_or code at 0) → drop at code ≡ octets_of (format_of format) (instruction_of step) ++ rest → instruction_fault counts count (at + size) (instruction_of step) ≡ None → IsMore format counts code at size steps step
is-more format counts code at size steps step rest count front inside fine counts_to sized stands none =
    let i = instruction_of step in
    let before = instructions_of steps in
    let long : length (octets_of (format_of format) i) ≡ size = sym (size-at format i code at rest stands) ∙ sym sized in
    let all : instructions_of (steps ++ step ∷ []) ≡ before ++ i ∷ [] = map-more instruction_of steps step in
    let end = ends-at format code at size before i front inside long in
    let own : IsFine format counts before i = rw (end, ← counts_to) none in
    record {
      front = front-more code at size (code_of (format_of format) before) (octets_of (format_of format) i) rest front stands long ∙ sym (code-more format before i) ∙ ap (code_of (format_of format)) (sym all);
      fine = rw all (EachAfter-more (IsFine format counts) [] before i fine own);
      count = rw all (count-more None before i);
      marks = ap (landings format) all ∙ sym (flat_map_more (λ instruction. is_landing instruction ∷ replicate (length (octets_of (format_of format) instruction) - 1) false) [] before i) ∙ ap (λ (n : ℕ). landings format before ++ is_landing i ∷ replicate (n - 1) false) long;
    }

-- the numbers of instructions with one more
pub fits-more : (format : Format) (steps : List CodeInstruction) (step : CodeInstruction) → All (Fits format) (instructions_of steps) → Fits format (instruction_of step) → All (Fits format) (instructions_of (steps ++ step ∷ []))
fits-more format steps step before fits =
    rw (map-more instruction_of steps step)
    (All-append (Fits format) (instructions_of steps) (instruction_of step ∷ []) before (All-cons (Fits format) (instruction_of step) [] fits (All-nil (Fits format))))

-- what is wrong with the next instruction
pub next-wrong : (format : Format) (counts : Counts) (code : List ℕ) (at : ℕ) (steps : List CodeInstruction) (count : Option ℕ) (fault : ImageFault) → take at code ≡ code_of (format_of format) (instructions_of steps) → at ≤ length code → count ≡ count_behind None (instructions_of steps) → (octets_fault format (drop at code) ≡ Some fault) ⊎ ((step : CodeInstruction) × (octets_fault format (drop at code) ≡ None) × (drop at code ≡ octets_of (format_of format) (instruction_of step) ++ drop (size_of format (slice_index_or code at 0)) (drop at code)) × Fits format (instruction_of step) × (instruction_fault counts count (at + size_of format (slice_index_or code at 0)) (instruction_of step) ≡ Some fault)) → NextWrong format counts (instructions_of steps) (drop at code) fault
next-wrong format counts code at steps count fault front inside counts_to (inl octets) = inl octets
next-wrong format counts code at steps count fault front inside counts_to (inr wrong) =
    let i = instruction_of wrong.0 in
    let long = sym (size-at format i code at (drop (size_of format (slice_index_or code at 0)) (drop at code)) wrong.2) in
    let end = ends-at format code at (size_of format (slice_index_or code at 0)) (instructions_of steps) i front inside long in
    inr (i, drop (size_of format (slice_index_or code at 0)) (drop at code), wrong.1, wrong.2, wrong.3, rw (end, ← counts_to) wrong.4)
