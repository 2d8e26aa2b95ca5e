use Rattle.std.proofs.Common.{◌≡◌, ℕ, ◌<◌, ◌≤◌, suc, zero, Bool, true, false, not, cond, ◌&&◌, List, [], ◌∷◌, ◌++◌, Option, Some, None, length, map, get_or, arith, refl, ap}
use Rattle.std.specs.List.{All, list_all}
use Rattle.std.specs.Int.{w16, w32, from_be_bytes, to_be_bytes}
use Rattle.std.proofs.lemmas.Bool.{and_parts}
use Rattle.std.proofs.lemmas.Bool.Decides.{nat_tests}
use Rattle.std.proofs.lemmas.Nat.{be_bytes_2, be_bytes_4}
use Rattle.std.proofs.lemmas.List.Elements.{All-cons, All-nil}
use Rattle.tab_asm.specs.Formats.{format_2, Instruction, BeginRow, TestGuard, RunAction, GoTo, NoRow, octets_of, code_of}
use Rattle.tab_asm.specs.Images.{Image}
use Rattle.tab_load.specs.Loading.{counts_of}
use Rattle.tab_load.specs.Code.{Fits, counted, count_behind, is_in_range, is_in_row, is_forward, instruction_fault, EachAfter, IsFine, leads}
use Rattle.tab_load.specs.declared.counts.Format.TheVariants.{Two}
use Rattle.tab_load.specs.declared.fault.ImageFault.TheVariants.{Count, BackJump}

-- an instruction with the numbers that its octets spell
abbrev pub as_spelt : Instruction → Instruction
as_spelt (BeginRow row) = BeginRow (from_be_bytes w16 (to_be_bytes w16 row))
as_spelt (TestGuard guard otherwise) = TestGuard guard (from_be_bytes w32 (to_be_bytes w32 otherwise))
as_spelt (RunAction action) = RunAction action
as_spelt (GoTo state) = GoTo state
as_spelt NoRow = NoRow

small-2 : (n i : ℕ) → get_or (to_be_bytes w16 n) i 0 < 256
small-2 n zero = omega arith
small-2 n (suc zero) = omega arith
small-2 n (suc (suc i)) = omega arith

small-4 : (n i : ℕ) → get_or (to_be_bytes w32 n) i 0 < 256
small-4 n zero = omega arith
small-4 n (suc zero) = omega arith
small-4 n (suc (suc zero)) = omega arith
small-4 n (suc (suc (suc zero))) = omega arith
small-4 n (suc (suc (suc (suc i)))) = omega arith

-- it has the same octets
spelt-octets : (one : Instruction) → octets_of format_2 (as_spelt one) ≡ octets_of format_2 one
spelt-octets (BeginRow row) =
    ap (λ (octets : List ℕ). 1 ∷ octets) (be_bytes_2 (to_be_bytes w16 row) (from_be_bytes w16 (to_be_bytes w16 row)) refl (small-2 row) refl)
spelt-octets (TestGuard guard otherwise) =
    ap (λ (octets : List ℕ). 2 ∷ guard ∷ octets) (be_bytes_4 (to_be_bytes w32 otherwise) (from_be_bytes w32 (to_be_bytes w32 otherwise)) refl (small-4 otherwise) refl)
spelt-octets (RunAction action) = refl
spelt-octets (GoTo state) = refl
spelt-octets NoRow = refl

pub spelt-code : (instructions : List Instruction) → code_of format_2 (map as_spelt instructions) ≡ code_of format_2 instructions
spelt-code [] = refl
spelt-code (one ∷ rest) = rw (spelt-octets one, spelt-code rest) refl

pub spelt-count : (count : Option ℕ) (instructions : List Instruction) → count_behind count (map as_spelt instructions) ≡ count_behind count instructions
spelt-count count [] = refl
spelt-count count (BeginRow row ∷ rest) = spelt-count (Some 0) rest
spelt-count count (TestGuard guard otherwise ∷ rest) = spelt-count count rest
spelt-count count (RunAction action ∷ rest) = spelt-count (counted count (RunAction action)) rest
spelt-count count (GoTo state ∷ rest) = spelt-count count rest
spelt-count count (NoRow ∷ rest) = spelt-count count rest

is-spelt : (one : Instruction) → Fits Two (as_spelt one)
is-spelt (BeginRow row) = omega arith
is-spelt (TestGuard guard otherwise) = omega arith
is-spelt (RunAction action) = tt
is-spelt (GoTo state) = tt
is-spelt NoRow = tt

pub are-spelt : (instructions : List Instruction) → All (Fits Two) (map as_spelt instructions)
are-spelt [] = All-nil (Fits Two)
are-spelt (one ∷ rest) = All-cons (Fits Two) (as_spelt one) (map as_spelt rest) (is-spelt one) (are-spelt rest)

-- where a jump may lead, there is a mark
mark-inside : (marks : List Bool) (offset : ℕ) → get_or marks offset false ≡ true → offset < length marks
mark-inside [] offset is = cc
mark-inside (mark ∷ marks) zero is = omega arith
mark-inside (mark ∷ marks) (suc offset) is =
    let later = mark-inside marks offset is in
    omega (arith, later)

in-range : (image : Image) (count : Option ℕ) (behind : ℕ) (one : Instruction) → instruction_fault (counts_of image) count behind one ≡ None → is_in_range (counts_of image) one ≡ true
in-range image count behind one none =
    by_tests (is_in_range (counts_of image) one) (is_in_row count one) refl none
  where
    by_tests : (range row : Bool) → is_in_range (counts_of image) one ≡ range → cond (not (range && row)) (Some Count) (cond (is_forward behind one) None (Some BackJump)) ≡ None → is_in_range (counts_of image) one ≡ true
    by_tests true row range none = range
    by_tests false row range none = cc

spelt-one : (image : Image) (marks : List Bool) (one : Instruction) → image.rows ≤ 65536 → length marks ≤ 4294967296 → is_in_range (counts_of image) one ≡ true → leads marks one ≡ true → Fits Two one
spelt-one image marks (BeginRow row) few_rows few range lead = grind (arith, nat_tests)
spelt-one image marks (TestGuard guard otherwise) few_rows few range lead = let inside = mark-inside marks otherwise lead in omega (arith, inside, few)
spelt-one image marks (RunAction action) few_rows few range lead = tt
spelt-one image marks (GoTo state) few_rows few range lead = tt
spelt-one image marks NoRow few_rows few range lead = tt

-- the operands of instructions in range that lead where a jump may lead are numbers that their octets can hold
pub all-spelt : (image : Image) (marks : List Bool) (before instructions : List Instruction) → image.rows ≤ 65536 → length marks ≤ 4294967296 → EachAfter (IsFine Two (counts_of image)) before instructions → list_all (leads marks) instructions ≡ true → All (Fits Two) instructions
all-spelt image marks before [] few_rows few fine lead = All-nil (Fits Two)
all-spelt image marks before (one ∷ rest) few_rows few fine lead =
    let both = and_parts (leads marks one) (list_all (leads marks) rest) lead in
    All-cons (Fits Two) one rest
    (spelt-one image marks one few_rows few (in-range image _ _ one fine.0) both.0)
    (all-spelt image marks (before ++ one ∷ []) rest few_rows few fine.1 both.1)
