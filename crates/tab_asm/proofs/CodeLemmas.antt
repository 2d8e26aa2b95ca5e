use Rattle.std.proofs.Common.{◌≡◌, ℕ, ◌+◌, ◌*◌, ◌<◌, suc, Bool, true, false, cond, List, [], ◌∷◌, ◌++◌, Option, length, map, take, get_or, arith, refl, sym, ap, ◌∙◌}
use Rattle.std.specs.List.{flat_map, filter, enumerate_from, range_with_len}
use Rattle.std.proofs.lemmas.List.{append-nil, append_assoc, length-append, length-take-le, take_more, flat_map_more}
use Rattle.std.proofs.lemmas.List.FromFn.{map-range_with_len_more}
use Rattle.std.proofs.lemmas.List.Concat.{flat_map-append}
use Rattle.std.proofs.lemmas.List.Elements.{filter-append}
use Rattle.tab_text.specs.Contents.{Contents}
use Rattle.tab_text.specs.declared.row.Row.{Row}
use Rattle.tab_asm.specs.Formats.{format_2, Instruction, BeginRow, TestGuard, RunAction, GoTo, octets_of, code_of}
use Rattle.tab_asm.specs.Images.{offset_octets}
use Rattle.tab_asm.specs.Assembled.{is_in, rows_in, code_to, entry_offset, row_size, row_instructions, rows_instructions, entry_instructions, offset_of}

-- how many octets the instructions of a row take
pub guards-length : (otherwise : ℕ) (guards : List ℕ) → length (code_of format_2 (map (λ guard. TestGuard guard otherwise) guards)) ≡ 6 * length guards
guards-length otherwise [] = refl
guards-length otherwise (guard ∷ guards) =
    let rest = guards-length otherwise guards in
    omega (arith, rest)

pub actions-length : (actions : List ℕ) → length (code_of format_2 (map RunAction actions)) ≡ 2 * length actions
actions-length [] = refl
actions-length (action ∷ actions) =
    let rest = actions-length actions in
    omega (arith, rest)

-- the octets of a row by its parts
pub row-code : (otherwise : ℕ) (numbered : ℕ × Row) → code_of format_2 (row_instructions otherwise numbered) ≡ octets_of format_2 (BeginRow numbered.0) ++ (code_of format_2 (map (λ guard. TestGuard guard otherwise) numbered.1.guards) ++ (code_of format_2 (map RunAction numbered.1.actions) ++ octets_of format_2 (GoTo numbered.1.next)))
row-code otherwise numbered =
    rw (flat_map-append (octets_of format_2) (map (λ guard. TestGuard guard otherwise) numbered.1.guards) (map RunAction numbered.1.actions ++ GoTo numbered.1.next ∷ []), flat_map-append (octets_of format_2) (map RunAction numbered.1.actions) (GoTo numbered.1.next ∷ []))
    refl

pub row-length : (otherwise : ℕ) (numbered : ℕ × Row) → length (code_of format_2 (row_instructions otherwise numbered)) ≡ row_size numbered.1
row-length otherwise numbered =
    let guards = code_of format_2 (map (λ guard. TestGuard guard otherwise) numbered.1.guards) in
    let actions = code_of format_2 (map RunAction numbered.1.actions) in
    let g = guards-length otherwise numbered.1.guards in
    let a = actions-length numbered.1.actions in
    let la : length (actions ++ octets_of format_2 (GoTo numbered.1.next)) ≡ length actions + 2 = length-append actions (octets_of format_2 (GoTo numbered.1.next)) in
    let lg : length (guards ++ (actions ++ octets_of format_2 (GoTo numbered.1.next))) ≡ length guards + length (actions ++ octets_of format_2 (GoTo numbered.1.next)) = length-append guards _ in
    ap length (row-code otherwise numbered) ∙ omega (arith, g, a, la, lg)

-- rows with one more behind them
rows-push : (offset : ℕ) (rows : List (ℕ × Row)) (numbered : ℕ × Row) → code_of format_2 (rows_instructions offset (rows ++ numbered ∷ [])) ≡ code_of format_2 (rows_instructions offset rows) ++ code_of format_2 (row_instructions (offset + length (code_of format_2 (rows_instructions offset rows)) + row_size numbered.1) numbered)
rows-push offset [] numbered =
    let here : offset + row_size numbered.1 ≡ offset + 0 + row_size numbered.1 = omega arith in
    ap (λ (all : List Instruction). code_of format_2 all) (append-nil (row_instructions (offset + row_size numbered.1) numbered))
    ∙ ap (λ (at : ℕ). code_of format_2 (row_instructions at numbered)) here
rows-push offset (first ∷ rows) numbered =
    let next = offset + row_size first.1 in
    let front = row_instructions next first in
    let rest = code_of format_2 (rows_instructions next rows) in
    let long : length (code_of format_2 front ++ rest) ≡ row_size first.1 + length rest = length-append (code_of format_2 front) rest ∙ ap (λ (n : ℕ). n + length rest) (row-length next first) in
    let same : next + length rest + row_size numbered.1 ≡ offset + length (code_of format_2 front ++ rest) + row_size numbered.1 = omega (arith, long) in
    flat_map-append (octets_of format_2) front (rows_instructions next (rows ++ numbered ∷ []))
    ∙ ap (λ (code : List ℕ). code_of format_2 front ++ code) (rows-push next rows numbered)
    ∙ sym (append_assoc (code_of format_2 front) rest _)
    ∙ ap (λ (at : ℕ). (code_of format_2 front ++ rest) ++ code_of format_2 (row_instructions at numbered)) same
    ∙ ap (λ (code : List ℕ). code ++ code_of format_2 (row_instructions (offset + length code + row_size numbered.1) numbered)) (sym (flat_map-append (octets_of format_2) front (rows_instructions next rows)))

-- the code of rows with one more, where it stands behind other code
pub code-push : (old now : List ℕ) (rows : List (ℕ × Row)) (numbered : ℕ × Row) → now ≡ old ++ code_of format_2 (rows_instructions (length old) rows) → now ++ code_of format_2 (row_instructions (length now + row_size numbered.1) numbered) ≡ old ++ code_of format_2 (rows_instructions (length old) (rows ++ numbered ∷ []))
code-push old now rows numbered is =
    let before = code_of format_2 (rows_instructions (length old) rows) in
    let long : length now ≡ length old + length before = ap length is ∙ length-append old before in
    let added : ℕ → List ℕ = λ at. code_of format_2 (row_instructions (at + row_size numbered.1) numbered) in
    ap (λ (at : ℕ). now ++ added at) long
    ∙ ap (λ (code : List ℕ). code ++ added (length old + length before)) is
    ∙ append_assoc old before (added (length old + length before))
    ∙ ap (λ (code : List ℕ). old ++ code) (sym (rows-push (length old) rows numbered))

-- one more row of a table is one of an entry or not
pub rows-more : (p : ℕ × Row → Bool) (rows : List Row) (i : ℕ) (row : Row) → i < length rows → filter p (enumerate_from 0 (take (i + 1) rows)) ≡ filter p (enumerate_from 0 (take i rows)) ++ cond (p (i, get_or rows i row)) ((i, get_or rows i row) ∷ []) []
rows-more p rows i row below =
    let item = get_or rows i row in
    let long : 0 + length (take i rows) ≡ i = omega (arith, length-take-le i rows (omega arith)) in
    rw (take_more rows i row below, numbered-push 0 (take i rows) item, long)
    (filter-append p (enumerate_from 0 (take i rows)) ((i, item) ∷ []) ∙ refl)
  where
    numbered-push : (from : ℕ) (xs : List Row) (x : Row) → enumerate_from from (xs ++ x ∷ []) ≡ enumerate_from from xs ++ (from + length xs, x) ∷ []
    numbered-push from [] x = let same : from ≡ from + 0 = omega arith in rw (← same) refl
    numbered-push from (y ∷ xs) x =
        let same : from + 1 + length xs ≡ from + length (y ∷ xs) = omega arith in
        rw (numbered-push (from + 1) xs x, same) refl

-- the rows of an entry among the first ones of a table
abbrev pub first_rows : Contents → ℕ → ℕ → List (ℕ × Row)
first_rows table entry i = filter (λ numbered. is_in table entry numbered.1) (enumerate_from 0 (take i table.rows))

-- the row of that number, as code reads it
item-is : (table : Contents) (i : ℕ) (all : List Row) (item : Row) → all ≡ table.rows → item ≡ get_or all i item → get_or table.rows i item ≡ item
item-is table i all item same at = ap (λ (rows : List Row). get_or rows i item) (sym same) ∙ sym at

-- a row of the entry is put behind those before it
pub row-in : (table : Contents) (entry i : ℕ) (all : List Row) (item : Row) (old now new : List ℕ) → all ≡ table.rows → i < length table.rows → item ≡ get_or all i item → is_in table entry item ≡ true → now ≡ old ++ code_of format_2 (rows_instructions (length old) (first_rows table entry i)) → new ≡ now ++ code_of format_2 (row_instructions (length now + row_size item) (i, item)) → new ≡ old ++ code_of format_2 (rows_instructions (length old) (first_rows table entry (i + 1)))
row-in table entry i all item old now new same below at is before put =
    let there = item-is table i all item same at in
    let more : first_rows table entry (i + 1) ≡ first_rows table entry i ++ (i, item) ∷ [] = rows-more (λ numbered. is_in table entry numbered.1) table.rows i item below ∙ rw (there, is) refl in
    put ∙ code-push old now (first_rows table entry i) (i, item) before
    ∙ ap (λ (rows : List (ℕ × Row)). old ++ code_of format_2 (rows_instructions (length old) rows)) (sym more)

-- another row is not
pub row-out : (table : Contents) (entry i : ℕ) (all : List Row) (item : Row) → all ≡ table.rows → i < length table.rows → item ≡ get_or all i item → is_in table entry item ≡ false → first_rows table entry (i + 1) ≡ first_rows table entry i
row-out table entry i all item same below at is =
    let there = item-is table i all item same at in
    rows-more (λ numbered. is_in table entry numbered.1) table.rows i item below ∙ rw (there, is) (append-nil (first_rows table entry i))

-- how much longer code is with a row
pub row-longer : (now new : List ℕ) (otherwise : ℕ) (numbered : ℕ × Row) → new ≡ now ++ code_of format_2 (row_instructions otherwise numbered) → length new ≡ length now + row_size numbered.1
row-longer now new otherwise numbered put =
    ap length put ∙ length-append now (code_of format_2 (row_instructions otherwise numbered)) ∙ ap (λ (n : ℕ). length now + n) (row-length otherwise numbered)

-- the code of one more entry
pub code_to-more : (table : Contents) (entry : ℕ) (now new : List ℕ) → now ≡ code_to table entry → new ≡ now ++ code_of format_2 (entry_instructions (length now) (rows_in table entry)) → new ≡ code_to table (entry + 1)
unfolding code_to
code_to-more table entry now new is put =
    let one : entry + 1 ≡ suc entry = omega arith in
    put ∙ ap (λ (code : List ℕ). code ++ code_of format_2 (entry_instructions (length code) (rows_in table entry))) is
    ∙ ap (code_to table) (sym one)

pub code_to-none : (table : Contents) → code_to table 0 ≡ []
unfolding code_to
code_to-none table = refl

-- one more entry
pub entries-more : (table : Contents) (entry : ℕ) (entries : List ℕ) (now : List ℕ) (offset : Option ℕ) → now ≡ code_to table entry → offset ≡ offset_of (length now) (rows_in table entry) → entries ≡ flat_map (offset_octets format_2) (map (entry_offset table) (range_with_len 0 entry)) → entries ++ offset_octets format_2 offset ≡ flat_map (offset_octets format_2) (map (entry_offset table) (range_with_len 0 (entry + 1)))
entries-more table entry entries now offset is found before =
    let mine : offset ≡ entry_offset table entry = found ∙ ap (λ (code : List ℕ). offset_of (length code) (rows_in table entry)) is in
    let all = map (entry_offset table) (range_with_len 0 entry) in
    let more : map (entry_offset table) (range_with_len 0 (entry + 1)) ≡ all ++ entry_offset table entry ∷ [] = map-range_with_len_more (entry_offset table) 0 entry entry (omega arith) in
    ap (λ (o : Option ℕ). entries ++ offset_octets format_2 o) mine
    ∙ ap (λ (octets : List ℕ). octets ++ offset_octets format_2 (entry_offset table entry)) before
    ∙ flat_map_more (offset_octets format_2) [] all (entry_offset table entry)
    ∙ ap (flat_map (offset_octets format_2)) (sym more)
