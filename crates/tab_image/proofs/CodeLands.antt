use Rattle.std.proofs.Common.{◌≡◌, ℕ, ◌+◌, ◌-◌, ◌<◌, ◌≤◌, suc, zero, Bool, true, false, List, [], ◌∷◌, ◌++◌, Option, Some, None, length, map, replicate, get_or, arith, refl, sym, ap, subst, ◌∙◌, ◌⊎◌, inl, inr}
use Rattle.std.specs.List.{list_all}
use Rattle.std.proofs.lemmas.Bool.{and_parts, and_from, cases_lt}
use Rattle.std.proofs.lemmas.List.{append-nil, append_assoc, length-append, get_or_at}
use Rattle.std.proofs.lemmas.List.Concat.{flat_map-append}
use Rattle.std.proofs.lemmas.List.Folds.{list_all-append}
use Rattle.tab_text.specs.Contents.{Contents}
use Rattle.tab_text.specs.declared.row.Row.{Row}
use Rattle.tab_asm.specs.Formats.{format_2, Instruction, BeginRow, TestGuard, RunAction, GoTo, NoRow, octets_of, code_of}
use Rattle.tab_asm.specs.Assembled.{rows_in, entry_offset, offset_of, row_size, row_instructions, rows_instructions, entry_instructions}
use Rattle.tab_load.specs.Code.{is_landing, landings, lands, leads, is_entry, is_end, IsEnded}
use Rattle.tab_load.specs.declared.counts.Format.TheVariants.{Two}
use Rattle.tab_image.proofs.CodeList.{instructions_to, code-is, row-behind}

-- the marks of an instruction's octets
abbrev marks_of : Instruction → List Bool
marks_of one = is_landing one ∷ replicate (length (octets_of format_2 one) - 1) false

mark-length : (one : Instruction) → length (marks_of one) ≡ length (octets_of format_2 one)
mark-length (BeginRow row) = refl
mark-length (TestGuard guard otherwise) = refl
mark-length (RunAction action) = refl
mark-length (GoTo state) = refl
mark-length NoRow = refl

-- there is a mark for each octet
pub marks-length : (instructions : List Instruction) → length (landings Two instructions) ≡ length (code_of format_2 instructions)
marks-length [] = refl
marks-length (one ∷ rest) =
    let marks = length-append (marks_of one) (landings Two rest) in
    let octets = length-append (octets_of format_2 one) (code_of format_2 rest) in
    let later = marks-length rest in
    let here = mark-length one in
    omega (arith, marks, octets, later, here)

marks-append : (before more : List Instruction) → landings Two (before ++ more) ≡ landings Two before ++ landings Two more
marks-append before more = flat_map-append marks_of before more

-- a jump may lead to a landing
lands-here : (before : List Instruction) (one : Instruction) (rest : List Instruction) → is_landing one ≡ true → lands (landings Two (before ++ one ∷ rest)) (length (code_of format_2 before)) ≡ true
lands-here before one rest is =
    ap (λ (marks : List Bool). lands marks (length (code_of format_2 before))) (marks-append before (one ∷ rest))
    ∙ get_or_at (landings Two before) (is_landing one) (replicate (length (octets_of format_2 one) - 1) false ++ landings Two rest) false (length (code_of format_2 before)) (marks-length before)
    ∙ is

get-more : (marks more : List Bool) (offset : ℕ) → get_or marks offset false ≡ true → get_or (marks ++ more) offset false ≡ true
get-more [] more offset is = cc
get-more (mark ∷ marks) more zero is = is
get-more (mark ∷ marks) more (suc offset) is = get-more marks more offset is

-- and also with more instructions behind
lands-more : (before more : List Instruction) (offset : ℕ) → lands (landings Two before) offset ≡ true → lands (landings Two (before ++ more)) offset ≡ true
lands-more before more offset is =
    ap (λ (marks : List Bool). lands marks offset) (marks-append before more) ∙ get-more (landings Two before) (landings Two more) offset is

leads-more : (before more : List Instruction) (one : Instruction) → leads (landings Two before) one ≡ true → leads (landings Two (before ++ more)) one ≡ true
leads-more before more (BeginRow row) is = refl
leads-more before more (TestGuard guard otherwise) is = lands-more before more otherwise is
leads-more before more (RunAction action) is = refl
leads-more before more (GoTo state) is = refl
leads-more before more NoRow is = refl

all-lead-more : (before more instructions : List Instruction) → list_all (leads (landings Two before)) instructions ≡ true → list_all (leads (landings Two (before ++ more))) instructions ≡ true
all-lead-more before more [] all = refl
all-lead-more before more (one ∷ rest) all =
    let both = and_parts (leads (landings Two before) one) (list_all (leads (landings Two before)) rest) all in
    and_from _ _ (leads-more before more one both.0) (all-lead-more before more rest both.1)

entry-more : (before more : List Instruction) (entry : Option ℕ) → is_entry (landings Two before) entry ≡ true → is_entry (landings Two (before ++ more)) entry ≡ true
entry-more before more None is = refl
entry-more before more (Some offset) is = lands-more before more offset is

-- a jump may lead to rows, and to the end behind them
lands-rows : (before : List Instruction) (offset : ℕ) (rows : List (ℕ × Row)) → lands (landings Two (before ++ (rows_instructions offset rows ++ NoRow ∷ []))) (length (code_of format_2 before)) ≡ true
lands-rows before offset [] = lands-here before NoRow [] refl
lands-rows before offset (numbered ∷ rows) = lands-here before (BeginRow numbered.0) _ refl

tests-lead : (marks : List Bool) (otherwise : ℕ) (guards : List ℕ) → lands marks otherwise ≡ true → list_all (leads marks) (map (λ guard. TestGuard guard otherwise) guards) ≡ true
tests-lead marks otherwise [] is = refl
tests-lead marks otherwise (guard ∷ guards) is = and_from _ _ is (tests-lead marks otherwise guards is)

actions-lead : (marks : List Bool) (actions : List ℕ) → list_all (leads marks) (map RunAction actions) ≡ true
actions-lead marks [] = refl
actions-lead marks (action ∷ actions) = actions-lead marks actions

-- what leads on in two lists
both-lead : (marks : List Bool) (xs ys : List Instruction) → list_all (leads marks) xs ≡ true → list_all (leads marks) ys ≡ true → list_all (leads marks) (xs ++ ys) ≡ true
both-lead marks xs ys first second = list_all-append (leads marks) xs ys ∙ and_from _ _ first second

row-leads : (marks : List Bool) (otherwise : ℕ) (numbered : ℕ × Row) → lands marks otherwise ≡ true → list_all (leads marks) (row_instructions otherwise numbered) ≡ true
row-leads marks otherwise numbered is =
    let row = numbered.1 in
    both-lead marks (map (λ guard. TestGuard guard otherwise) row.guards) (map RunAction row.actions ++ GoTo row.next ∷ []) (tests-lead marks otherwise row.guards is)
    (both-lead marks (map RunAction row.actions) (GoTo row.next ∷ []) (actions-lead marks row.actions) refl)

-- the guards of rows lead behind their rows
rows-lead : (all before : List Instruction) (offset : ℕ) (rows : List (ℕ × Row)) → all ≡ before ++ (rows_instructions offset rows ++ NoRow ∷ []) → offset ≡ length (code_of format_2 before) → list_all (leads (landings Two all)) (rows_instructions offset rows ++ NoRow ∷ []) ≡ true
rows-lead all before offset [] is at = refl
rows-lead all before offset (numbered ∷ rows) is at =
    let next = offset + row_size numbered.1 in
    let row = row_instructions next numbered in
    let later = rows_instructions next rows ++ NoRow ∷ [] in
    let apart : rows_instructions offset (numbered ∷ rows) ++ NoRow ∷ [] ≡ row ++ later = append_assoc row (rows_instructions next rows) (NoRow ∷ []) in
    let split : all ≡ (before ++ row) ++ later = is ∙ ap (λ (x : List Instruction). before ++ x) apart ∙ sym (append_assoc before row later) in
    let behind = row-behind before offset next numbered at in
    let there : lands (landings Two all) next ≡ true = ap (λ (x : List Instruction). lands (landings Two x) next) split ∙ ap (λ (n : ℕ). lands (landings Two ((before ++ row) ++ later)) n) behind ∙ lands-rows (before ++ row) next rows in
    ap (list_all (leads (landings Two all))) apart
    ∙ both-lead (landings Two all) row later (row-leads (landings Two all) next numbered there) (rows-lead all (before ++ row) next rows split behind)

entry-leads : (before : List Instruction) (rows : List (ℕ × Row)) → list_all (leads (landings Two before)) before ≡ true → list_all (leads (landings Two (before ++ entry_instructions (length (code_of format_2 before)) rows))) (before ++ entry_instructions (length (code_of format_2 before)) rows) ≡ true
entry-leads before [] all = rw append-nil all
entry-leads before (numbered ∷ rows) all =
    let offset = length (code_of format_2 before) in
    let entry = entry_instructions offset (numbered ∷ rows) in
    both-lead (landings Two (before ++ entry)) before entry (all-lead-more before entry before all) (rows-lead (before ++ entry) before offset (numbered ∷ rows) refl refl)

-- each guard of a table leads where a jump may lead
pub table-leads : (table : Contents) (n : ℕ) → list_all (leads (landings Two (instructions_to table n))) (instructions_to table n) ≡ true
table-leads table zero = refl
table-leads table (suc n) = entry-leads (instructions_to table n) (rows_in table n) (table-leads table n)

entry-lands : (before : List Instruction) (rows : List (ℕ × Row)) → is_entry (landings Two (before ++ entry_instructions (length (code_of format_2 before)) rows)) (offset_of (length (code_of format_2 before)) rows) ≡ true
entry-lands before [] = refl
entry-lands before (numbered ∷ rows) = lands-rows before (length (code_of format_2 before)) (numbered ∷ rows)

-- each entry of a table leads where a jump may lead
pub table-entries : (table : Contents) (n number : ℕ) → number < n → is_entry (landings Two (instructions_to table n)) (entry_offset table number) ≡ true
table-entries table zero number below = absurd (omega arith)
table-entries table (suc n) number below =
    let before = instructions_to table n in
    let more = entry_instructions (length (code_of format_2 before)) (rows_in table n) in
    by_place (cases_lt number n) (λ earlier. entry-more before more (entry_offset table number) (table-entries table n number earlier))
  where
    by_place : (number < n) ⊎ (n ≤ number) → (number < n → is_entry (landings Two (instructions_to table (suc n))) (entry_offset table number) ≡ true) → is_entry (landings Two (instructions_to table (suc n))) (entry_offset table number) ≡ true
    by_place (inl earlier) later = later earlier
    by_place (inr last) later =
        let same : number ≡ n = omega (arith, last, below) in
        let before = instructions_to table n in
        rw (same, code-is) (entry-lands before (rows_in table n))

-- instructions whose last one is an end
ended-last : (before : List Instruction) (last : Instruction) → is_end last ≡ true → IsEnded (before ++ last ∷ [])
ended-last [] last is = is
ended-last (first ∷ []) last is = is
ended-last (first ∷ second ∷ before) last is = ended-last (second ∷ before) last is

entry-ended : (before : List Instruction) (offset : ℕ) (rows : List (ℕ × Row)) → IsEnded before → IsEnded (before ++ entry_instructions offset rows)
entry-ended before offset [] ended = subst (λ (all : List Instruction). IsEnded all) (sym (append-nil before)) ended
entry-ended before offset (numbered ∷ rows) ended =
    subst (λ (all : List Instruction). IsEnded all) (append_assoc before (rows_instructions offset (numbered ∷ rows)) (NoRow ∷ [])) (ended-last (before ++ rows_instructions offset (numbered ∷ rows)) NoRow refl)

-- the instructions of a table end with an end
pub table-ended : (table : Contents) (n : ℕ) → IsEnded (instructions_to table n)
table-ended table zero = tt
table-ended table (suc n) =
    entry-ended (instructions_to table n) (length (code_of format_2 (instructions_to table n))) (rows_in table n) (table-ended table n)
