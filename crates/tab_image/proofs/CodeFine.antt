use Rattle.std.proofs.Common.{◌≡◌, ℕ, ◌+◌, ◌*◌, ◌<◌, ◌≤◌, suc, zero, true, List, [], ◌∷◌, ◌++◌, Option, Some, None, length, map, arith, refl, sym, ap, subst, ◌∙◌}
use Rattle.std.specs.List.{All, enumerate_from}
use Rattle.std.proofs.lemmas.Bool.{lt-ltb, le-leb}
use Rattle.std.proofs.lemmas.List.{append-nil, append_assoc}
use Rattle.std.proofs.lemmas.List.Elements.{All-head, All-tail, All-cons, All-nil, All-filter}
use Rattle.tab_text.specs.Contents.{Contents, IsTable, IsRowOf}
use Rattle.tab_text.specs.declared.row.Row.{Row}
use Rattle.tab_asm.specs.Formats.{format_2, Instruction, BeginRow, TestGuard, RunAction, GoTo, NoRow, code_of}
use Rattle.tab_asm.specs.Images.{Image}
use Rattle.tab_asm.specs.Assembled.{is_in, rows_in, row_size, row_instructions, rows_instructions, entry_instructions, image_of}
use Rattle.tab_load.specs.Code.{is_in_range, is_in_row, is_forward, counted, count_behind, EachAfter, IsFine, AreFine}
use Rattle.tab_load.specs.Loading.{counts_of}
use Rattle.tab_load.specs.declared.counts.Format.TheVariants.{Two}
use Rattle.tab_load.proofs.ScanLemmas.{count-more}
use Rattle.tab_image.proofs.CodeList.{instructions_to, code-append, row-behind, IsRowIn}

-- each of two lists, the second behind the first
each-append : {X : Type 0} (P : List X → X → Type 0) (before xs ys : List X) → EachAfter P before xs → EachAfter P (before ++ xs) ys → EachAfter P before (xs ++ ys)
each-append P before [] ys first second = subst (λ (all : _). EachAfter P all ys) (append-nil before) second
each-append P before (x ∷ xs) ys first second =
    (first.0, each-append P (before ++ x ∷ []) xs ys first.1 (subst (λ (all : _). EachAfter P all ys) (sym (append_assoc before (x ∷ []) xs)) second))

-- how many actions stand behind two lists
count-append : (count : Option ℕ) (xs ys : List Instruction) → count_behind count (xs ++ ys) ≡ count_behind (count_behind count xs) ys
count-append count [] ys = refl
count-append count (x ∷ xs) ys = count-append (counted count x) xs ys

-- nothing is wrong with an instruction in range, in a row, that leads forward
fine-one : (image : Image) (before : List Instruction) (one : Instruction) (end : ℕ) → length (code_of format_2 (before ++ one ∷ [])) ≡ end → is_in_range (counts_of image) one ≡ true → is_in_row (count_behind None before) one ≡ true → is_forward end one ≡ true → IsFine Two (counts_of image) before one
fine-one image before one end at range row forward = rw (at, range, row, forward) refl

-- the tests of guards behind a row's begin
tests-fine : (image : Image) (otherwise : ℕ) (guards : List ℕ) (before : List Instruction) → count_behind None before ≡ Some 0 → length (code_of format_2 before) + 6 * length guards ≤ otherwise → All (λ guard. guard < length image.guards) guards → EachAfter (IsFine Two (counts_of image)) before (map (λ guard. TestGuard guard otherwise) guards)
tests-fine image otherwise [] before row ahead all = tt
tests-fine image otherwise (guard ∷ guards) before row ahead all =
    let one = TestGuard guard otherwise in
    let long : length (code_of format_2 (before ++ one ∷ [])) ≡ length (code_of format_2 before) + 6 = code-append before (one ∷ []) in
    let range = lt-ltb guard (length image.guards) (All-head (λ g. g < length image.guards) guard guards all) in
    let forward = le-leb (length (code_of format_2 before) + 6) otherwise (omega (arith, ahead)) in (
      fine-one image before one _ long range (rw row refl) forward,
      tests-fine image otherwise guards (before ++ one ∷ []) (count-more None before one ∙ row) (omega (arith, long, ahead)) (All-tail (λ g. g < length image.guards) guard guards all),
    )

-- actions behind a row's begin and so many actions
actions-fine : (image : Image) (actions : List ℕ) (before : List Instruction) (n : ℕ) → count_behind None before ≡ Some n → n + length actions ≤ 8 → All (λ action. action < length image.actions) actions → EachAfter (IsFine Two (counts_of image)) before (map RunAction actions)
actions-fine image [] before n row few all = tt
actions-fine image (action ∷ actions) before n row few all =
    let one = RunAction action in
    let range = lt-ltb action (length image.actions) (All-head (λ a. a < length image.actions) action actions all) in
    let place = lt-ltb n 8 (omega (arith, few)) in
    let more : count_behind None (before ++ one ∷ []) ≡ Some (n + 1) = count-more None before one ∙ rw row refl in (
      fine-one image before one _ refl range (rw (row, place) refl) refl,
      actions-fine image actions (before ++ one ∷ []) (n + 1) more (omega (arith, few)) (All-tail (λ a. a < length image.actions) action actions all),
    )

count-tests : (count : Option ℕ) (otherwise : ℕ) (guards : List ℕ) → count_behind count (map (λ guard. TestGuard guard otherwise) guards) ≡ count
count-tests count otherwise [] = refl
count-tests count otherwise (guard ∷ guards) = count-tests count otherwise guards

count-actions : (n : ℕ) (actions : List ℕ) → count_behind (Some n) (map RunAction actions) ≡ Some (n + length actions)
count-actions n [] = ap (λ (m : ℕ). Some m) (omega arith)
count-actions n (action ∷ actions) = count-actions (n + 1) actions ∙ ap (λ (m : ℕ). Some m) (omega arith)

-- nothing is wrong with the instructions of a row
row-fine : (image : Image) (before : List Instruction) (numbered : ℕ × Row) (otherwise : ℕ) → otherwise ≡ length (code_of format_2 before) + row_size numbered.1 → IsRowIn image numbered → EachAfter (IsFine Two (counts_of image)) before (row_instructions otherwise numbered)
row-fine image before numbered otherwise at well =
    let row = numbered.1 in
    let begun = before ++ BeginRow numbered.0 ∷ [] in
    let tests = map (λ guard. TestGuard guard otherwise) row.guards in
    let actions = map RunAction row.actions in
    let long : length (code_of format_2 begun) ≡ length (code_of format_2 before) + 3 = code-append before (BeginRow numbered.0 ∷ []) in
    let first : count_behind None begun ≡ Some 0 = count-more None before (BeginRow numbered.0) in
    let tested : count_behind None (begun ++ tests) ≡ Some 0 = count-append None begun tests ∙ rw first (count-tests (Some 0) otherwise row.guards) in
    let acted : count_behind None ((begun ++ tests) ++ actions) ≡ Some (0 + length row.actions) = count-append None (begun ++ tests) actions ∙ rw tested (count-actions 0 row.actions) in
    let go = fine-one image ((begun ++ tests) ++ actions) (GoTo row.next) _ refl (lt-ltb row.next (length image.states) well.next) (rw acted refl) refl in (
      fine-one image before (BeginRow numbered.0) _ refl (lt-ltb numbered.0 image.rows well.number) refl refl,
      each-append (IsFine Two (counts_of image)) begun tests (actions ++ GoTo row.next ∷ [])
          (tests-fine image otherwise row.guards begun first (omega (arith, at, long)) well.guards)
          (each-append (IsFine Two (counts_of image)) (begun ++ tests) actions (GoTo row.next ∷ []) (actions-fine image row.actions (begun ++ tests) 0 tested (omega (arith, well.few_actions)) well.actions) (go, tt)),
    )

rows-fine : (image : Image) (before : List Instruction) (offset : ℕ) (rows : List (ℕ × Row)) → offset ≡ length (code_of format_2 before) → All (IsRowIn image) rows → EachAfter (IsFine Two (counts_of image)) before (rows_instructions offset rows)
rows-fine image before offset [] at all = tt
rows-fine image before offset (numbered ∷ rows) at all =
    let next = offset + row_size numbered.1 in
    let row = row_instructions next numbered in
    each-append (IsFine Two (counts_of image)) before row (rows_instructions next rows)
    (row-fine image before numbered next (omega (arith, at)) (All-head (IsRowIn image) numbered rows all))
    (rows-fine image (before ++ row) next rows (row-behind before offset next numbered at) (All-tail (IsRowIn image) numbered rows all))

entry-fine : (image : Image) (before : List Instruction) (rows : List (ℕ × Row)) → All (IsRowIn image) rows → EachAfter (IsFine Two (counts_of image)) before (entry_instructions (length (code_of format_2 before)) rows)
entry-fine image before [] all = tt
entry-fine image before (numbered ∷ rows) all =
    let offset = length (code_of format_2 before) in
    let code = rows_instructions offset (numbered ∷ rows) in
    each-append (IsFine Two (counts_of image)) before code (NoRow ∷ []) (rows-fine image before offset (numbered ∷ rows) refl all) (fine-one image (before ++ code) NoRow _ refl refl refl refl, tt)

-- the rows of a table, with their numbers from one on
numbered-in : (table : Contents) (from : ℕ) (rows : List Row) → from + length rows ≤ length table.rows → All (IsRowOf table) rows → All (IsRowIn (image_of table)) (enumerate_from from rows)
numbered-in table from [] few all = All-nil (IsRowIn (image_of table))
numbered-in table from (row ∷ rows) few all =
    let well = All-head (IsRowOf table) row rows all in
    let here : IsRowIn (image_of table) (from, row) = record {
      number = omega (arith, few);
      guards = well.guards;
      actions = well.actions;
      next = well.next;
      few_actions = well.few_actions;
    } in
    All-cons (IsRowIn (image_of table)) (from, row) (enumerate_from (from + 1) rows) here (numbered-in table (from + 1) rows (omega (arith, few)) (All-tail (IsRowOf table) row rows all))

rows-in : (table : Contents) (entry : ℕ) → IsTable table → All (IsRowIn (image_of table)) (rows_in table entry)
rows-in table entry is =
    All-filter (λ (n : ℕ × Row). is_in table entry n.1) (IsRowIn (image_of table)) (enumerate_from 0 table.rows) (numbered-in table 0 table.rows (omega arith) is.each_row)

-- nothing is wrong with the instructions of a table
pub table-fine : (table : Contents) (n : ℕ) → IsTable table → AreFine Two (counts_of (image_of table)) (instructions_to table n)
table-fine table zero is = tt
table-fine table (suc n) is =
    let image = image_of table in
    let before = instructions_to table n in
    each-append (IsFine Two (counts_of image)) [] before (entry_instructions (length (code_of format_2 before)) (rows_in table n)) (table-fine table n is) (entry-fine image before (rows_in table n) (rows-in table n is))
