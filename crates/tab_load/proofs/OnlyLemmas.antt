-- The first fault of the instructions of code is one alone.
use Rattle.std.proofs.Common.{◌≡◌, ℕ, ◌+◌, ◌<◌, ◌≤◌, ◌||◌, nat_lt, false, All, List, [], ◌∷◌, ◌++◌, Some, None, length, take, drop, arith, refl, sym, ap, subst, ◌∙◌, inl, inr}
use Rattle.std.specs.List.{slice_index_or}
use Rattle.std.specs.Int.{w16, w32, to_be_bytes, from_be_bytes}
use Rattle.std.proofs.lemmas.Bool.Decides.{nat_tests}
use Rattle.std.proofs.lemmas.Nat.{from_be_bytes-to_be_bytes_2, from_be_bytes-to_be_bytes_4}
use Rattle.std.proofs.lemmas.List.{append-nil, append_assoc, append_cancel_left, length-append, length-take-le, take-append-drop}
use Rattle.std.proofs.lemmas.List.Elements.{All-head, All-tail}
use Rattle.tab_asm.specs.Formats.{Instruction, BeginRow, TestGuard, RunAction, GoTo, NoRow, octets_of, code_of}
use Rattle.tab_load.specs.Faults.{format_of, at_of}
use Rattle.tab_load.specs.Code.{Fits, size_of, octets_fault, count_behind, instruction_fault, EachAfter, IsFine, NextWrong, ScanWrong, IsOnly}
use Rattle.tab_load.specs.declared.counts.Counts.{Counts}
use Rattle.tab_load.specs.declared.counts.Format.{Format}
use Rattle.tab_load.specs.declared.counts.Format.TheVariants.{One, Two}
use Rattle.tab_load.specs.declared.fault.ImageFault.{ImageFault}
use Rattle.tab_load.proofs.ScanLemmas.{size-is}

-- numbers of the same octets are one number
same-2 : (m n : ℕ) → m < 65536 → n < 65536 → to_be_bytes w16 m ≡ to_be_bytes w16 n → m ≡ n
same-2 m n small_m small_n same =
    sym (from_be_bytes-to_be_bytes_2 m small_m) ∙ ap (from_be_bytes w16) same ∙ from_be_bytes-to_be_bytes_2 n small_n

same-4 : (m n : ℕ) → m < 4294967296 → n < 4294967296 → to_be_bytes w32 m ≡ to_be_bytes w32 n → m ≡ n
same-4 m n small_m small_n same =
    sym (from_be_bytes-to_be_bytes_4 m small_m) ∙ ap (from_be_bytes w32) same ∙ from_be_bytes-to_be_bytes_4 n small_n

-- instructions that octets begin with are one instruction
pub same-instruction : (format : Format) (one other : Instruction) (r s : List ℕ) → Fits format one → Fits format other → octets_of (format_of format) one ++ r ≡ octets_of (format_of format) other ++ s → one ≡ other
same-instruction format (BeginRow m) (BeginRow n) r s fits other_fits same =
    ap BeginRow (same-2 m n fits other_fits (ap (λ (octets : List ℕ). take 2 (drop 1 octets)) same))
same-instruction format (BeginRow m) other r s fits other_fits same = cc
same-instruction One (TestGuard g o) (TestGuard h p) r s fits other_fits same =
    let guard : g ≡ h = ap (λ (octets : List ℕ). slice_index_or octets 1 0) same in
    let otherwise : o ≡ p = same-2 o p fits other_fits (ap (λ (octets : List ℕ). take 2 (drop 2 octets)) same) in
    rw (guard, otherwise) refl
same-instruction Two (TestGuard g o) (TestGuard h p) r s fits other_fits same =
    let guard : g ≡ h = ap (λ (octets : List ℕ). slice_index_or octets 1 0) same in
    let otherwise : o ≡ p = same-4 o p fits other_fits (ap (λ (octets : List ℕ). take 4 (drop 2 octets)) same) in
    rw (guard, otherwise) refl
same-instruction format (TestGuard g o) other r s fits other_fits same = cc
same-instruction format (RunAction a) (RunAction b) r s fits other_fits same =
    ap RunAction (ap (λ (octets : List ℕ). slice_index_or octets 1 0) same)
same-instruction format (RunAction a) other r s fits other_fits same = cc
same-instruction format (GoTo a) (GoTo b) r s fits other_fits same =
    ap GoTo (ap (λ (octets : List ℕ). slice_index_or octets 1 0) same)
same-instruction format (GoTo a) other r s fits other_fits same = cc
same-instruction format NoRow NoRow r s fits other_fits same = refl
same-instruction format NoRow other r s fits other_fits same = cc

-- the first octet of an instruction is that of a kind
op-fine : (format : Format) (one : Instruction) → (nat_lt (slice_index_or (octets_of (format_of format) one) 0 0) 1 || nat_lt 5 (slice_index_or (octets_of (format_of format) one) 0 0)) ≡ false
op-fine format (BeginRow row) = refl
op-fine format (TestGuard guard otherwise) = refl
op-fine format (RunAction action) = refl
op-fine format (GoTo state) = refl
op-fine format NoRow = refl

first-of : (format : Format) (one : Instruction) (rest : List ℕ) → slice_index_or (octets_of (format_of format) one ++ rest) 0 0 ≡ slice_index_or (octets_of (format_of format) one) 0 0
first-of format (BeginRow row) rest = refl
first-of format (TestGuard guard otherwise) rest = refl
first-of format (RunAction action) rest = refl
first-of format (GoTo state) rest = refl
first-of format NoRow rest = refl

-- nothing is wrong with the octets of an instruction
octets-fine : (format : Format) (one : Instruction) (rest : List ℕ) → octets_fault format (octets_of (format_of format) one ++ rest) ≡ None
octets-fine format one rest =
    let size = size-is format one in
    let whole : nat_lt (length (octets_of (format_of format) one ++ rest)) (size_of format (slice_index_or (octets_of (format_of format) one) 0 0)) ≡ false = grind (arith, nat_tests, size, length-append (octets_of (format_of format) one) rest) in
    rw (first-of format one rest, op-fine format one, whole) refl

-- behind instructions one thing is wrong
next-one : (format : Format) (counts : Counts) (before : List Instruction) (rest : List ℕ) (f g : ImageFault) → NextWrong format counts before rest f → NextWrong format counts before rest g → f ≡ g
next-one format counts before rest f g (inl is) (inl other) = cc
next-one format counts before rest f g (inl is) (inr other) = let none = other.2 in cc
next-one format counts before rest f g (inr is) (inl other) = let none = is.2 in cc
next-one format counts before rest f g (inr is) (inr other) =
    let same = same-instruction format is.0 other.0 is.1 other.1 is.4 other.4 (sym is.3 ∙ other.3) in
    let wrong = is.5 in
    let wrong_too = subst (λ (one : Instruction). instruction_fault counts (count_behind None before) (length (code_of (format_of format) (before ++ one ∷ []))) one ≡ Some g) (sym same) other.5 in
    cc

-- and nothing where an instruction stands with which nothing is wrong
fine-next : (format : Format) (counts : Counts) (before : List Instruction) (one : Instruction) (more rest : List ℕ) (f : ImageFault) → Fits format one → IsFine format counts before one → rest ≡ octets_of (format_of format) one ++ more → NextWrong format counts before rest f → ⊥
fine-next format counts before one more rest f fits fine stands (inl is) =
    let none = octets-fine format one more in
    let wrong = rw stands at is in
    absurd (cc)
fine-next format counts before one more rest f fits fine stands (inr is) =
    let same = same-instruction format is.0 one is.1 more is.4 fits (sym is.3 ∙ stands) in
    let wrong = subst (λ (i : Instruction). instruction_fault counts (count_behind None before) (length (code_of (format_of format) (before ++ i ∷ []))) i ≡ Some f) same is.5 in
    absurd (cc)

-- two readings of octets up to a fault are one
one-reading : (format : Format) (counts : Counts) (before xs ys : List Instruction) (r s : List ℕ) (f g : ImageFault) → All (Fits format) xs → All (Fits format) ys → EachAfter (IsFine format counts) before xs → EachAfter (IsFine format counts) before ys → code_of (format_of format) xs ++ r ≡ code_of (format_of format) ys ++ s → NextWrong format counts (before ++ xs) r f → NextWrong format counts (before ++ ys) s g → (xs ≡ ys) × (f ≡ g)
one-reading format counts before [] [] r s f g fits fits_too fine fine_too same wrong wrong_too =
    (refl, next-one format counts (before ++ []) r f g wrong (subst (λ (rest : List ℕ). NextWrong format counts (before ++ []) rest g) (sym same) wrong_too))
one-reading format counts before [] (y ∷ ys) r s f g fits fits_too fine fine_too same wrong wrong_too =
    let stands = same ∙ append_assoc (octets_of (format_of format) y) (code_of (format_of format) ys) s in
    absurd (fine-next format counts before y _ r f (All-head (Fits format) y ys fits_too) fine_too.0 stands (subst (λ (all : List Instruction). NextWrong format counts all r f) (append-nil before) wrong))
one-reading format counts before (x ∷ xs) [] r s f g fits fits_too fine fine_too same wrong wrong_too =
    let stands = sym same ∙ append_assoc (octets_of (format_of format) x) (code_of (format_of format) xs) r in
    absurd (fine-next format counts before x _ s g (All-head (Fits format) x xs fits) fine.0 stands (subst (λ (all : List Instruction). NextWrong format counts all s g) (append-nil before) wrong_too))
one-reading format counts before (x ∷ xs) (y ∷ ys) r s f g fits fits_too fine fine_too same wrong wrong_too =
    let apart : octets_of (format_of format) x ++ (code_of (format_of format) xs ++ r) ≡ octets_of (format_of format) y ++ (code_of (format_of format) ys ++ s) =
    sym (append_assoc (octets_of (format_of format) x) (code_of (format_of format) xs) r) ∙ same ∙ append_assoc (octets_of (format_of format) y) (code_of (format_of format) ys) s in
    let first : x ≡ y = same-instruction format x y _ _ (All-head (Fits format) x xs fits) (All-head (Fits format) y ys fits_too) apart in
    let rest = append_cancel_left (octets_of (format_of format) x) _ _ (subst (λ (one : Instruction). octets_of (format_of format) x ++ (code_of (format_of format) xs ++ r) ≡ octets_of (format_of format) one ++ (code_of (format_of format) ys ++ s)) (sym first) apart) in
    let fine_rest = subst (λ (one : Instruction). EachAfter (IsFine format counts) (before ++ one ∷ []) ys) (sym first) fine_too.1 in
    let wrong_rest = subst (λ (all : List Instruction). NextWrong format counts all r f) (sym (append_assoc before (x ∷ []) xs)) wrong in
    let other_rest = subst (λ (all : List Instruction). NextWrong format counts all s g) (sym (append_assoc before (x ∷ []) ys)) (subst (λ (one : Instruction). NextWrong format counts (before ++ one ∷ ys) s g) (sym first) wrong_too) in
    let later = one-reading format counts (before ++ x ∷ []) xs ys r s f g (All-tail (Fits format) x xs fits) (All-tail (Fits format) y ys fits_too) fine.1 fine_rest rest wrong_rest other_rest in
    (ap (λ (one : Instruction). one ∷ xs) first ∙ ap (λ (all : List Instruction). y ∷ all) later.0, later.1)

-- the first fault of the instructions of code is one alone
pub scan-only : (format : Format) (counts : Counts) (code : List ℕ) (begin whole at : ℕ) (fault : ImageFault) → ScanWrong format counts code begin whole at fault → IsOnly (ScanWrong format counts code begin whole) at fault
scan-only format counts code begin whole at fault is other_at other too =
    let both : code_of (format_of format) is.before ++ drop is.part code ≡ code_of (format_of format) too.before ++ drop too.part code =
    ap (λ (front : List ℕ). front ++ drop is.part code) (sym is.front) ∙ take-append-drop is.part code
    ∙ sym (take-append-drop too.part code) ∙ ap (λ (front : List ℕ). front ++ drop too.part code) too.front in
    let same = one-reading format counts [] is.before too.before (drop is.part code) (drop too.part code) fault other is.fits too.fits is.fine too.fine both is.wrong too.wrong in
    let long : is.part ≤ length code = omega (arith, is.inside) in
    let long_too : too.part ≤ length code = omega (arith, too.inside) in
    let part : is.part ≡ too.part =
    sym (length-take-le is.part code long) ∙ ap length is.front ∙ ap (λ (all : List Instruction). length (code_of (format_of format) all)) same.0
    ∙ sym (ap length too.front) ∙ length-take-le too.part code long_too in (
      too.place ∙ ap (λ (wrong : ImageFault). at_of wrong (begin + too.part) whole) (sym same.1) ∙ ap (λ (n : ℕ). at_of fault (begin + n) whole) (sym part) ∙ sym is.place,
      sym same.1,
    )
