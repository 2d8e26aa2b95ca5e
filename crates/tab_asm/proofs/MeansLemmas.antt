use Rattle.std.proofs.Common.{◌≡◌, ℕ, ◌+◌, ◌-◌, ◌<◌, ◌≤◌, suc, zero, Bool, List, [], ◌∷◌, ◌++◌, Option, Some, None, length, map, drop, arith, refl, sym, ap, ◌∙◌}
use Rattle.std.specs.List.{slice_get, range_with_len}
use Rattle.std.proofs.lemmas.List.{append-nil, append_assoc, length-append, length-drop, drop_at}
use Rattle.std.proofs.lemmas.List.Concat.{flat_map-append}
use Rattle.std.proofs.lemmas.List.FromFn.{length-map-range_with_len, get_or-map-range_with_len}
use Rattle.std.proofs.lemmas.Nat.{mul-add-lt}
use Rattle.std.proofs.lemmas.Option.{slice_get-get_or}
use Rattle.tab_text.specs.Contents.{Contents}
use Rattle.tab_text.specs.Rows.{IsNumberedTable}
use Rattle.tab_text.specs.declared.row.Row.{Row}
use Rattle.tab_step.specs.Moves.{name_at}
use Rattle.tab_asm.specs.Formats.{format_2, NoRow, octets_of, code_of}
use Rattle.tab_asm.specs.Paths.{Reaches}
use Rattle.tab_asm.specs.Assembled.{entry_number, rows_in, row_size, row_instructions, rows_instructions, entry_instructions, code_to, entry_offset, entry_count, image_of, outcome_of, Means}
use Rattle.tab_asm.proofs.CodeLemmas.{row-length}
use Rattle.tab_asm.proofs.PathLemmas.{first_of, rows_code, rows_size, rows-path}
use Rattle.tab_asm.proofs.PickLemmas.{picked, small-rows}

-- more entries put their code behind
grows : (table : Contents) (entry more : ℕ) → (rest : List ℕ) × (code_to table (entry + more) ≡ code_to table entry ++ rest)
unfolding code_to
grows table entry zero =
    let same : entry + 0 ≡ entry = omega arith in
    ([], ap (code_to table) same ∙ sym (append-nil (code_to table entry)))
grows table entry (suc more) =
    let before = grows table entry more in
    let added = code_of format_2 (entry_instructions (length (code_to table (entry + more))) (rows_in table (entry + more))) in
    let one : entry + suc more ≡ suc (entry + more) = omega arith in
    (before.0 ++ added, ap (code_to table) one ∙ ap (λ (code : List ℕ). code ++ added) before.1 ∙ append_assoc (code_to table entry) before.0 added)

-- where the code of an entry begins, there it stands
stands : (table : Contents) (entry count : ℕ) → entry < count → (rest : List ℕ) × (drop (length (code_to table entry)) (code_to table count) ≡ code_of format_2 (entry_instructions (length (code_to table entry)) (rows_in table entry)) ++ rest)
unfolding code_to
stands table entry count below =
    let own = code_of format_2 (entry_instructions (length (code_to table entry)) (rows_in table entry)) in
    let later = grows table (suc entry) (count - suc entry) in
    let whole : suc entry + (count - suc entry) ≡ count = omega (arith, below) in
    let split : code_to table count ≡ code_to table entry ++ (own ++ later.0) = sym (ap (code_to table) whole) ∙ later.1 ∙ append_assoc (code_to table entry) own later.0 in
    (later.0, ap (drop (length (code_to table entry))) split ∙ drop_at (code_to table entry) (own ++ later.0) _ refl)

rows-length : (offset : ℕ) (rows : List (ℕ × Row)) → length (code_of format_2 (rows_instructions offset rows)) ≡ rows_size rows
rows-length offset [] = refl
rows-length offset (numbered ∷ rows) =
    let next = offset + row_size numbered.1 in
    ap length (flat_map-append (octets_of format_2) (row_instructions next numbered) (rows_instructions next rows))
    ∙ length-append (code_of format_2 (row_instructions next numbered)) (code_of format_2 (rows_instructions next rows))
    ∙ rw (row-length next numbered, rows-length next rows) refl

-- the code of rows with the end behind it fits into the code where it stands
fits : (code : List ℕ) (offset : ℕ) (rows : List (ℕ × Row)) (rest : List ℕ) → drop offset code ≡ rows_code offset rows rest → rows_size rows + 1 ≤ length code
fits code offset rows rest at =
    let front = code_of format_2 (rows_instructions offset rows) in
    let split : code_of format_2 (rows_instructions offset rows ++ NoRow ∷ []) ≡ front ++ 5 ∷ [] = flat_map-append (octets_of format_2) (rows_instructions offset rows) (NoRow ∷ []) in
    let long : length (code_of format_2 (rows_instructions offset rows ++ NoRow ∷ [])) ≡ length front + 1 = ap length split ∙ length-append front (5 ∷ []) in
    let all : length (drop offset code) ≡ length (code_of format_2 (rows_instructions offset rows ++ NoRow ∷ [])) + length rest = ap length at ∙ length-append (code_of format_2 (rows_instructions offset rows ++ NoRow ∷ [])) rest in
    omega (arith, long, all, rows-length offset rows, length-drop offset code)

-- an entry leads to the first of its rows whose guards say yes
entry-reaches : (table : Contents) (entry : ℕ) (says : ℕ → Bool) → IsNumberedTable table → entry < entry_count table → Reaches format_2 (code_to table (entry_count table)) says (entry_offset table entry) (outcome_of (first_of says (rows_in table entry)))
entry-reaches table entry says is below =
    let there = stands table entry (entry_count table) below in
    by_rows (rows_in table entry) refl there.0 there.1
  where
    by_rows : (rows : List (ℕ × Row)) → rows_in table entry ≡ rows → (rest : List ℕ) → drop (length (code_to table entry)) (code_to table (entry_count table)) ≡ code_of format_2 (entry_instructions (length (code_to table entry)) (rows_in table entry)) ++ rest → Reaches format_2 (code_to table (entry_count table)) says (entry_offset table entry) (outcome_of (first_of says (rows_in table entry)))
    by_rows [] none rest at = rw none refl
    by_rows (numbered ∷ rows) some rest at =
        let offset = length (code_to table entry) in
        let code = code_to table (entry_count table) in
        let at_rows : drop offset code ≡ rows_code offset (numbered ∷ rows) rest = at ∙ ap (λ (all : List (ℕ × Row)). code_of format_2 (entry_instructions offset all) ++ rest) some in
        let small = rw some at (small-rows table entry is) in
        let found = rows-path code says offset (numbered ∷ rows) rest at_rows small in
        let room = fits code offset (numbered ∷ rows) rest at_rows in
        rw some (record { path = found.path; is_path = found.is_path; few = omega (arith, found.few, room); end = found.ends None [] })

entry-at : (table : Contents) (number : ℕ) (entry : Option ℕ) → number < entry_count table → slice_get (map (entry_offset table) (range_with_len 0 (entry_count table))) number ≡ Some entry → entry ≡ entry_offset table number
entry-at table number entry below got =
    let all = map (entry_offset table) (range_with_len 0 (entry_count table)) in
    let within : number < length all = rw (length-map-range_with_len (entry_offset table) 0 (entry_count table)) below in
    let read = slice_get-get_or all number None within in
    let value = get_or-map-range_with_len (entry_offset table) 0 (entry_count table) number number None below (omega arith) in
    let same : Some entry ≡ Some (entry_offset table number) = sym got ∙ read ∙ ap (λ (o : Option ℕ). Some o) value in
    cc

-- an assembled image means its table
pub image-means : (table : Contents) → IsNumberedTable table → Means (image_of table) table
image-means table is = λ state kind answers in_states in_kinds entry got.
    let number = entry_number table state kind in
    let inside = mul-add-lt state (length table.kinds) kind (length table.states) in_states in_kinds in
    let below : number < entry_count table = omega (arith, inside) in
    let says : ℕ → Bool = λ guard. answers (name_at table.guards guard) in
    let at = entry-at table number entry below got in
    let reached = entry-reaches table number says is below in
    let same = picked table state kind answers is in_kinds in
    rw (at, ← same) reached
