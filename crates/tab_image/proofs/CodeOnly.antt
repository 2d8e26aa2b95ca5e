use Rattle.std.proofs.Common.{◌≡◌, ℕ, ◌<◌, false, ◌==◌, if◌then◌else◌, nat_lt, List, [], ◌∷◌, ◌++◌, None, length, drop, take, get_or, arith, refl, sym, ap, subst, ◌∙◌}
use Rattle.std.specs.List.{All}
use Rattle.std.specs.Int.{w16, w32, from_be_bytes}
use Rattle.std.proofs.lemmas.Bool.Decides.{nat_tests}
use Rattle.std.proofs.lemmas.Nat.{from_be_bytes-to_be_bytes_2, from_be_bytes-to_be_bytes_4}
use Rattle.std.proofs.lemmas.List.{append-nil, append_assoc, append_cancel_left, length-append}
use Rattle.std.proofs.lemmas.List.Elements.{All-head, All-tail}
use Rattle.tab_asm.specs.Formats.{format_2, Instruction, BeginRow, TestGuard, RunAction, GoTo, NoRow, octets_of, code_of}
use Rattle.tab_load.specs.Code.{Fits, octets_fault}
use Rattle.tab_load.specs.declared.counts.Format.TheVariants.{Two}

-- the instruction that octets begin with
abbrev read : List ℕ → Instruction
read octets =
    if get_or octets 0 0 == 1 then BeginRow (from_be_bytes w16 (take 2 (drop 1 octets)))
    else if get_or octets 0 0 == 2 then TestGuard (get_or octets 1 0) (from_be_bytes w32 (take 4 (drop 2 octets)))
    else if get_or octets 0 0 == 3 then RunAction (get_or octets 1 0)
    else if get_or octets 0 0 == 4 then GoTo (get_or octets 1 0) else NoRow

read-back : (one : Instruction) (rest : List ℕ) → Fits Two one → read (octets_of format_2 one ++ rest) ≡ one
read-back (BeginRow row) rest spelt = ap (λ (n : ℕ). BeginRow n) (from_be_bytes-to_be_bytes_2 row spelt)
read-back (TestGuard guard otherwise) rest spelt = ap (λ (n : ℕ). TestGuard guard n) (from_be_bytes-to_be_bytes_4 otherwise spelt)
read-back (RunAction action) rest spelt = refl
read-back (GoTo state) rest spelt = refl
read-back NoRow rest spelt = refl

-- octets begin with one instruction alone
pub only-one : (one other : Instruction) (rest more : List ℕ) → Fits Two one → Fits Two other → octets_of format_2 one ++ rest ≡ octets_of format_2 other ++ more → (one ≡ other) × (rest ≡ more)
only-one one other rest more spelt spelt_too is =
    let same : one ≡ other = sym (read-back one rest spelt) ∙ ap read is ∙ read-back other more spelt_too in
    (same, append_cancel_left (octets_of format_2 other) rest more (subst (λ (i : Instruction). octets_of format_2 i ++ rest ≡ octets_of format_2 other ++ more) same is))

pub some-octets : (one : Instruction) → 0 < length (octets_of format_2 one)
some-octets (BeginRow row) = omega arith
some-octets (TestGuard guard otherwise) = omega arith
some-octets (RunAction action) = omega arith
some-octets (GoTo state) = omega arith
some-octets NoRow = omega arith

-- the instructions of a front of the code are a front of its instructions
pub front-of : (all before : List Instruction) (rest : List ℕ) → All (Fits Two) all → All (Fits Two) before → code_of format_2 all ≡ code_of format_2 before ++ rest → (after : List Instruction) × (all ≡ before ++ after) × (code_of format_2 after ≡ rest)
front-of all [] rest spelt spelt_too is = (all, refl, is)
front-of [] (one ∷ before) rest spelt spelt_too is =
    let long : 0 ≡ length ((octets_of format_2 one ++ code_of format_2 before) ++ rest) = ap length is in
    let whole = length-append (octets_of format_2 one ++ code_of format_2 before) rest in
    let first = length-append (octets_of format_2 one) (code_of format_2 before) in
    absurd (omega (arith, long, whole, first, some-octets one))
front-of (one ∷ all) (other ∷ before) rest spelt spelt_too is =
    let split = is ∙ append_assoc (octets_of format_2 other) (code_of format_2 before) rest in
    let first = only-one one other (code_of format_2 all) (code_of format_2 before ++ rest) (All-head (Fits Two) one all spelt) (All-head (Fits Two) other before spelt_too) split in
    let later = front-of all before rest (All-tail (Fits Two) one all spelt) (All-tail (Fits Two) other before spelt_too) first.1 in
    (later.0, ap (λ (i : Instruction). i ∷ all) first.0 ∙ ap (λ (r : List Instruction). other ∷ r) later.1, later.2)

none-behind : (after : List Instruction) → code_of format_2 after ≡ [] → after ≡ []
none-behind [] is = refl
none-behind (one ∷ after) is =
    let long : length (octets_of format_2 one ++ code_of format_2 after) ≡ 0 = ap length is in
    absurd (omega (arith, long, length-append (octets_of format_2 one) (code_of format_2 after), some-octets one))

-- octets are the code of one list of instructions alone
pub only-code : (all other : List Instruction) → All (Fits Two) all → All (Fits Two) other → code_of format_2 all ≡ code_of format_2 other → all ≡ other
only-code all other spelt spelt_too is =
    let found = front-of all other [] spelt spelt_too (is ∙ sym (append-nil (code_of format_2 other))) in
    found.1 ∙ ap (λ (after : List Instruction). other ++ after) (none-behind found.0 found.2) ∙ append-nil other

-- nothing is wrong with the octets of an instruction
pub whole-octets : (one : Instruction) (rest : List ℕ) → octets_fault Two (octets_of format_2 one ++ rest) ≡ None
whole-octets (BeginRow row) rest = let long : nat_lt (length (octets_of format_2 (BeginRow row) ++ rest)) 3 ≡ false = grind (arith, nat_tests) in rw long refl
whole-octets (TestGuard guard otherwise) rest = let long : nat_lt (length (octets_of format_2 (TestGuard guard otherwise) ++ rest)) 6 ≡ false = grind (arith, nat_tests) in rw long refl
whole-octets (RunAction action) rest = let long : nat_lt (length (octets_of format_2 (RunAction action) ++ rest)) 2 ≡ false = grind (arith, nat_tests) in rw long refl
whole-octets (GoTo state) rest = let long : nat_lt (length (octets_of format_2 (GoTo state) ++ rest)) 2 ≡ false = grind (arith, nat_tests) in rw long refl
whole-octets NoRow rest = let long : nat_lt (length (octets_of format_2 NoRow ++ rest)) 1 ≡ false = grind (arith, nat_tests) in rw long refl
