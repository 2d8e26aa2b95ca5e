use Rattle.std.proofs.Common.{◌≡◌, ℕ, ◌+◌, ◌*◌, ◌<◌, ◌≤◌, ◌&&◌, Bool, true, false, List, [], ◌∷◌, ◌++◌, Option, Some, length, map, drop, arith, refl, sym, ap, subst, ◌∙◌}
use Rattle.std.specs.List.{filter, list_all, slice_get, All}
use Rattle.std.proofs.lemmas.List.{append-nil, append_assoc, length-append, length-map, length-drop, drop-drop, drop_at}
use Rattle.std.proofs.lemmas.List.Concat.{flat_map-append}
use Rattle.std.proofs.lemmas.List.Elements.{All-head, All-tail}
use Rattle.tab_text.specs.declared.row.Row.{Row}
use Rattle.tab_asm.specs.Formats.{format_2, Instruction, BeginRow, TestGuard, RunAction, GoTo, NoRow, octets_of, code_of}
use Rattle.tab_asm.specs.Paths.{IsPath, Outcome, Taken, end_of}
use Rattle.tab_asm.specs.Assembled.{row_size, row_instructions, rows_instructions, outcome_of}
use Rattle.tab_asm.proofs.CodeLemmas.{guards-length, actions-length, row-code, row-length}

-- what stands behind a front of what stands at an offset
tail-at : (code : List ℕ) (offset n : ℕ) (front rest : List ℕ) → drop offset code ≡ front ++ rest → length front ≡ n → drop (offset + n) code ≡ rest
tail-at code offset n front rest at long =
    sym (drop-drop n offset code) ∙ ap (drop n) at ∙ drop_at front rest n long

-- an offset where octets stand lies in the code
in-code : (code : List ℕ) (offset : ℕ) (all : List ℕ) → drop offset code ≡ all → 0 < length all → offset < length code
in-code code offset all at some =
    let long : length (drop offset code) ≡ length all = ap length at in
    omega (arith, long, some, length-drop offset code)

abbrev tests : ℕ → List ℕ → List Instruction
tests otherwise guards = map (λ guard. TestGuard guard otherwise) guards

-- a path from an offset is one from the same offset otherwise written
moved : (code : List ℕ) (says : ℕ → Bool) (one other : ℕ) (path : List Instruction) → one ≡ other → IsPath format_2 code says one path → IsPath format_2 code says other path
moved code says one other path same is = let P : ℕ → Type 0 = λ n. IsPath format_2 code says n path in subst P same is

-- where all guards say yes, a path goes on behind their tests
yes-path : (code : List ℕ) (says : ℕ → Bool) (otherwise : ℕ) (guards : List ℕ) (offset : ℕ) (rest : List ℕ) (path : List Instruction) → drop offset code ≡ code_of format_2 (tests otherwise guards) ++ rest → otherwise < length code → list_all says guards ≡ true → IsPath format_2 code says (offset + 6 * length guards) path → IsPath format_2 code says offset (tests otherwise guards ++ path)
yes-path code says otherwise [] offset rest path at inside all is = moved code says _ offset path (omega arith) is
yes-path code says otherwise (guard ∷ guards) offset rest path at inside all is =
    let both = and-both (says guard) (list_all says guards) all in
    let next = tail-at code offset 6 (octets_of format_2 (TestGuard guard otherwise)) (code_of format_2 (tests otherwise guards) ++ rest) at refl in
    let more = yes-path code says otherwise guards (offset + 6) rest path next inside both.1 (moved code says _ _ path (omega arith) is) in
    (record { whole = inside; rest = code_of format_2 (tests otherwise guards) ++ rest; octets = at }, rw both.0 more)
  where
    and-both : (a b : Bool) → (a && b) ≡ true → (a ≡ true) × (b ≡ true)
    and-both true b is = (refl, is)
    and-both false b is = cc

-- where one says no, it goes on at that offset
no-path : (code : List ℕ) (says : ℕ → Bool) (otherwise : ℕ) (guards : List ℕ) (offset : ℕ) (rest : List ℕ) (path : List Instruction) → drop offset code ≡ code_of format_2 (tests otherwise guards) ++ rest → otherwise < length code → list_all says guards ≡ false → IsPath format_2 code says otherwise path → (front : List ℕ) × IsPath format_2 code says offset (tests otherwise front ++ path) × (length front ≤ length guards)
no-path code says otherwise [] offset rest path at inside none is = cc
no-path code says otherwise (guard ∷ guards) offset rest path at inside none is =
    let next = tail-at code offset 6 (octets_of format_2 (TestGuard guard otherwise)) (code_of format_2 (tests otherwise guards) ++ rest) at refl in
    by_answer (says guard) refl none (λ more. no-path code says otherwise guards (offset + 6) rest path next inside more is)
  where
    by_answer : (answer : Bool) → says guard ≡ answer → (answer && list_all says guards) ≡ false → (list_all says guards ≡ false → (front : List ℕ) × IsPath format_2 code says (offset + 6) (tests otherwise front ++ path) × (length front ≤ length guards)) → (front : List ℕ) × IsPath format_2 code says offset (tests otherwise front ++ path) × (length front ≤ length (guard ∷ guards))
    by_answer true is_yes more later =
        let found = later more in
        (guard ∷ found.0, (record { whole = inside; rest = code_of format_2 (tests otherwise guards) ++ rest; octets = at }, rw is_yes found.1), omega (arith, found.2))
    by_answer false is_no more later =
        (guard ∷ [], (record { whole = inside; rest = code_of format_2 (tests otherwise guards) ++ rest; octets = at }, rw is_no is), omega arith)

-- a path goes on behind actions
actions-path : (code : List ℕ) (says : ℕ → Bool) (actions : List ℕ) (offset : ℕ) (rest : List ℕ) (path : List Instruction) → drop offset code ≡ code_of format_2 (map RunAction actions) ++ rest → IsPath format_2 code says (offset + 2 * length actions) path → IsPath format_2 code says offset (map RunAction actions ++ path)
actions-path code says [] offset rest path at is = moved code says _ offset path (omega arith) is
actions-path code says (action ∷ actions) offset rest path at is =
    let next = tail-at code offset 2 (octets_of format_2 (RunAction action)) (code_of format_2 (map RunAction actions) ++ rest) at refl in
    (record { whole = tt; rest = code_of format_2 (map RunAction actions) ++ rest; octets = at }, actions-path code says actions (offset + 2) rest path next (moved code says _ _ path (omega arith) is))

-- tests don't change how a path ends
end-tests : (row : Option ℕ) (actions : List ℕ) (otherwise : ℕ) (guards : List ℕ) (path : List Instruction) → end_of row actions (tests otherwise guards ++ path) ≡ end_of row actions path
end-tests row actions otherwise [] path = refl
end-tests row actions otherwise (guard ∷ guards) path = end-tests row actions otherwise guards path

end-actions : (number : ℕ) (before actions : List ℕ) (state : ℕ) → end_of (Some number) before (map RunAction actions ++ GoTo state ∷ []) ≡ Some (Taken number (before ++ actions) state)
end-actions number before [] state = rw (append-nil before) refl
end-actions number before (action ∷ actions) state =
    end-actions number (before ++ action ∷ []) actions state
    ∙ ap (λ (all : List ℕ). Some (Taken number all state)) (append_assoc before (action ∷ []) actions)

-- instructions are no more than their octets
few-instructions : (path : List Instruction) → length path ≤ length (code_of format_2 path)
few-instructions [] = omega arith
few-instructions (BeginRow row ∷ path) = let rest = few-instructions path in omega (arith, rest)
few-instructions (TestGuard guard otherwise ∷ path) = let rest = few-instructions path in omega (arith, rest)
few-instructions (RunAction action ∷ path) = let rest = few-instructions path in omega (arith, rest)
few-instructions (GoTo state ∷ path) = let rest = few-instructions path in omega (arith, rest)
few-instructions (NoRow ∷ path) = let rest = few-instructions path in omega (arith, rest)

-- a path from an offset that ends so, whatever row was begun before
pub record EndsSo (code : List ℕ) (says : ℕ → Bool) (offset most : ℕ) (outcome : Outcome) : Type 0 where
  pub path : List Instruction
  pub is_path : IsPath format_2 code says offset path
  pub few : length path ≤ most
  pub ends : (row : Option ℕ) (actions : List ℕ) → end_of row actions path ≡ Some outcome

-- the first of rows whose guards all say yes
abbrev pub first_of : (ℕ → Bool) → List (ℕ × Row) → Option (ℕ × Row)
first_of says rows = slice_get (filter (λ numbered. list_all says numbered.1.guards) rows) 0

-- the octets of rows, the end without a row, and what stands behind them
abbrev pub rows_code : ℕ → List (ℕ × Row) → List ℕ → List ℕ
rows_code offset rows rest = code_of format_2 (rows_instructions offset rows ++ NoRow ∷ []) ++ rest

rows-split : (offset : ℕ) (numbered : ℕ × Row) (rows : List (ℕ × Row)) (rest : List ℕ) → rows_code offset (numbered ∷ rows) rest ≡ code_of format_2 (row_instructions (offset + row_size numbered.1) numbered) ++ rows_code (offset + row_size numbered.1) rows rest
rows-split offset numbered rows rest =
    let next = offset + row_size numbered.1 in
    let row = row_instructions next numbered in
    let behind = rows_instructions next rows ++ NoRow ∷ [] in
    ap (λ (all : List Instruction). code_of format_2 all ++ rest) (append_assoc row (rows_instructions next rows) (NoRow ∷ []))
    ∙ ap (λ (all : List ℕ). all ++ rest) (flat_map-append (octets_of format_2) row behind)
    ∙ append_assoc (code_of format_2 row) (code_of format_2 behind) rest

some-code : (offset : ℕ) (rows : List (ℕ × Row)) (rest : List ℕ) → 0 < length (rows_code offset rows rest)
some-code offset rows rest =
    let front = code_of format_2 (rows_instructions offset rows) in
    let split : code_of format_2 (rows_instructions offset rows ++ NoRow ∷ []) ≡ front ++ 5 ∷ [] = flat_map-append (octets_of format_2) (rows_instructions offset rows) (NoRow ∷ []) in
    let long : length (code_of format_2 (rows_instructions offset rows ++ NoRow ∷ [])) ≡ length front + 1 = ap length split ∙ length-append front (5 ∷ []) in
    let all = length-append (code_of format_2 (rows_instructions offset rows ++ NoRow ∷ [])) rest in
    omega (arith, long, all)

joined : (guards actions last rest : List ℕ) → (guards ++ (actions ++ last)) ++ rest ≡ guards ++ (actions ++ (last ++ rest))
joined guards actions last rest =
    append_assoc guards (actions ++ last) rest ∙ ap (λ (all : List ℕ). guards ++ all) (append_assoc actions last rest)

-- what stands where a row begins
record AtRow (code : List ℕ) (offset : ℕ) (numbered : ℕ × Row) (rest : List ℕ) : Type 0 where
  row : drop offset code ≡ octets_of format_2 (BeginRow numbered.0) ++ (code_of format_2 (tests (offset + row_size numbered.1) numbered.1.guards) ++ (code_of format_2 (map RunAction numbered.1.actions) ++ (octets_of format_2 (GoTo numbered.1.next) ++ rest)))
  asked : drop (offset + 3) code ≡ code_of format_2 (tests (offset + row_size numbered.1) numbered.1.guards) ++ (code_of format_2 (map RunAction numbered.1.actions) ++ (octets_of format_2 (GoTo numbered.1.next) ++ rest))
  behind : drop (offset + row_size numbered.1) code ≡ rest
  inside : offset + row_size numbered.1 < length code

at-row : (code : List ℕ) (offset : ℕ) (numbered : ℕ × Row) (rows : List (ℕ × Row)) (rest : List ℕ) → drop offset code ≡ rows_code offset (numbered ∷ rows) rest → AtRow code offset numbered (rows_code (offset + row_size numbered.1) rows rest)
at-row code offset numbered rows rest at =
    let next = offset + row_size numbered.1 in
    let tail = rows_code next rows rest in
    let split = at ∙ rows-split offset numbered rows rest in
    let row =
    split ∙ ap (λ (all : List ℕ). all ++ tail) (row-code next numbered)
    ∙ ap (λ (all : List ℕ). octets_of format_2 (BeginRow numbered.0) ++ all) (joined (code_of format_2 (tests next numbered.1.guards)) (code_of format_2 (map RunAction numbered.1.actions)) (octets_of format_2 (GoTo numbered.1.next)) tail) in
    let behind = tail-at code offset (row_size numbered.1) (code_of format_2 (row_instructions next numbered)) tail split (row-length next numbered) in
    record {
      row = row;
      asked = tail-at code offset 3 (octets_of format_2 (BeginRow numbered.0)) (code_of format_2 (tests next numbered.1.guards) ++ (code_of format_2 (map RunAction numbered.1.actions) ++ (octets_of format_2 (GoTo numbered.1.next) ++ tail))) row refl;
      behind = behind;
      inside = in-code code next tail behind (some-code next rows rest);
    }

-- a row whose guards all say yes
row-yes : (code : List ℕ) (says : ℕ → Bool) (offset : ℕ) (numbered : ℕ × Row) (rest : List ℕ) → AtRow code offset numbered rest → numbered.0 < 65536 → list_all says numbered.1.guards ≡ true → EndsSo code says offset (row_size numbered.1) (Taken numbered.0 numbered.1.actions numbered.1.next)
row-yes code says offset numbered rest at small all =
    let row = numbered.1 in
    let next = offset + row_size row in
    let guards = code_of format_2 (tests next row.guards) in
    let actions = code_of format_2 (map RunAction row.actions) in
    let at3 = tail-at code (offset + 3) (6 * length row.guards) guards (actions ++ (octets_of format_2 (GoTo row.next) ++ rest)) at.asked (guards-length next row.guards) in
    let at4 = tail-at code (offset + 3 + 6 * length row.guards) (2 * length row.actions) actions (octets_of format_2 (GoTo row.next) ++ rest) at3 (actions-length row.actions) in
    let last : IsPath format_2 code says (offset + 3 + 6 * length row.guards + 2 * length row.actions) (GoTo row.next ∷ []) = (record { whole = tt; rest = rest; octets = at4 }, refl) in
    let acting = actions-path code says row.actions (offset + 3 + 6 * length row.guards) (octets_of format_2 (GoTo row.next) ++ rest) (GoTo row.next ∷ []) at3 last in
    let testing = yes-path code says next row.guards (offset + 3) (actions ++ (octets_of format_2 (GoTo row.next) ++ rest)) (map RunAction row.actions ++ GoTo row.next ∷ []) at.asked at.inside all acting in
    record {
      path = row_instructions next numbered;
      is_path = (record { whole = small; rest = guards ++ (actions ++ (octets_of format_2 (GoTo row.next) ++ rest)); octets = at.row }, testing);
      few = omega (arith, few-instructions (row_instructions next numbered), row-length next numbered);
      ends = λ begun before. end-tests (Some numbered.0) [] next row.guards (map RunAction row.actions ++ GoTo row.next ∷ []) ∙ end-actions numbered.0 [] row.actions row.next;
    }

-- a row of which a guard says no
row-no : (code : List ℕ) (says : ℕ → Bool) (offset : ℕ) (numbered : ℕ × Row) (rest : List ℕ) (most : ℕ) (outcome : Outcome) → AtRow code offset numbered rest → numbered.0 < 65536 → list_all says numbered.1.guards ≡ false → EndsSo code says (offset + row_size numbered.1) most outcome → EndsSo code says offset (row_size numbered.1 + most) outcome
row-no code says offset numbered rest most outcome at small none later =
    let row = numbered.1 in
    let next = offset + row_size row in
    let guards = code_of format_2 (tests next row.guards) in
    let actions = code_of format_2 (map RunAction row.actions) in
    let found = no-path code says next row.guards (offset + 3) (actions ++ (octets_of format_2 (GoTo row.next) ++ rest)) later.path at.asked at.inside none later.is_path in
    let long : length (tests next found.0 ++ later.path) ≡ length found.0 + length later.path = length-append (tests next found.0) later.path ∙ ap (λ (n : ℕ). n + length later.path) (length-map found.0 (λ guard. TestGuard guard next)) in
    record {
      path = BeginRow numbered.0 ∷ (tests next found.0 ++ later.path);
      is_path = (record { whole = small; rest = guards ++ (actions ++ (octets_of format_2 (GoTo row.next) ++ rest)); octets = at.row }, found.1);
      few = omega (arith, long, found.2, later.few);
      ends = λ begun before. end-tests (Some numbered.0) [] next found.0 later.path ∙ later.ends (Some numbered.0) [];
    }

-- how many octets rows take
abbrev pub rows_size : List (ℕ × Row) → ℕ
rows_size [] = 0
rows_size (numbered ∷ rows) = row_size numbered.1 + rows_size rows

-- the code of rows, with the end behind it, leads to the first row whose guards all say yes
pub rows-path : (code : List ℕ) (says : ℕ → Bool) (offset : ℕ) (rows : List (ℕ × Row)) (rest : List ℕ) → drop offset code ≡ rows_code offset rows rest → All (λ numbered. numbered.0 < 65536) rows → EndsSo code says offset (rows_size rows + 1) (outcome_of (first_of says rows))
rows-path code says offset [] rest at small = record {
  path = NoRow ∷ [];
  is_path = (record { whole = tt; rest = rest; octets = at }, refl);
  few = omega arith;
  ends = λ row actions. refl;
}
rows-path code says offset (numbered ∷ rows) rest at small =
    let here = at-row code offset numbered rows rest at in
    let later = rows-path code says (offset + row_size numbered.1) rows rest here.behind (All-tail (λ n. n.0 < 65536) numbered rows small) in
    by_answer (list_all says numbered.1.guards) refl here later
  where
    by_answer : (answer : Bool) → list_all says numbered.1.guards ≡ answer → AtRow code offset numbered (rows_code (offset + row_size numbered.1) rows rest) → EndsSo code says (offset + row_size numbered.1) (rows_size rows + 1) (outcome_of (first_of says rows)) → EndsSo code says offset (rows_size (numbered ∷ rows) + 1) (outcome_of (first_of says (numbered ∷ rows)))
    by_answer true is_yes here later =
        let found = row-yes code says offset numbered (rows_code (offset + row_size numbered.1) rows rest) here (All-head (λ n. n.0 < 65536) numbered rows small) is_yes in
        rw is_yes (record { path = found.path; is_path = found.is_path; few = omega (arith, found.few); ends = found.ends })
    by_answer false is_no here later =
        let found = row-no code says offset numbered (rows_code (offset + row_size numbered.1) rows rest) _ _ here (All-head (λ n. n.0 < 65536) numbered rows small) is_no later in
        rw is_no (record { path = found.path; is_path = found.is_path; few = omega (arith, found.few); ends = found.ends })
