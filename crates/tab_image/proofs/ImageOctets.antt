use Rattle.std.proofs.Common.{◌≡◌, ℕ, ◌+◌, ◌*◌, ◌<◌, ◌≤◌, suc, zero, not, List, [], ◌∷◌, None, length, map, arith, refl, ap, ◌∙◌}
use Rattle.std.specs.List.{All, enumerate_from, range_with_len}
use Rattle.std.proofs.lemmas.List.{length-append}
use Rattle.std.proofs.lemmas.List.Concat.{flat_map-append}
use Rattle.std.proofs.lemmas.List.Elements.{All-nil, All-head, All-tail, All-cons, All-filter, All-from_get_or}
use Rattle.std.proofs.lemmas.List.Filters.{length-filter_both}
use Rattle.std.proofs.lemmas.List.FromFn.{length-enumerate_from, length-map-range_with_len, get_or-map-range_with_len}
use Rattle.std.proofs.lemmas.Nat.{mul-le}
use Rattle.tab_text.specs.Contents.{Contents, IsTable, IsRowOf}
use Rattle.tab_text.specs.Rows.{IsNumberedTable}
use Rattle.tab_text.specs.declared.row.Row.{Row}
use Rattle.tab_asm.specs.Formats.{format_2, NoRow, octets_of, code_of}
use Rattle.tab_asm.specs.Assembled.{is_in, rows_in, row_size, row_instructions, rows_instructions, entry_instructions, offset_of, code_to, entry_offset, entry_count}
use Rattle.tab_asm.proofs.CodeLemmas.{row-length}
use Rattle.tab_load.specs.Loading.{IsOffset}
use Rattle.tab_load.specs.declared.counts.Format.TheVariants.{Two}
use Rattle.tab_image.specs.Tables.{HasImage}

-- a row whose instructions have at most 69 octets
abbrev IsSmall : ℕ × Row → Type 0
IsSmall numbered = row_size numbered.1 ≤ 69

rows-few : (offset : ℕ) (rows : List (ℕ × Row)) → All IsSmall rows → length (code_of format_2 (rows_instructions offset rows)) ≤ 69 * length rows
rows-few offset [] small = omega arith
rows-few offset (numbered ∷ rows) small =
    let next = offset + row_size numbered.1 in
    let own = code_of format_2 (row_instructions next numbered) in
    let rest = code_of format_2 (rows_instructions next rows) in
    let split : length (code_of format_2 (rows_instructions offset (numbered ∷ rows))) ≡ length own + length rest = ap length (flat_map-append (octets_of format_2) (row_instructions next numbered) (rows_instructions next rows)) ∙ length-append own rest in
    let long = row-length next numbered in
    let later = rows-few next rows (All-tail IsSmall numbered rows small) in
    let first = All-head IsSmall numbered rows small in
    omega (arith, split, long, later, first)

entry-few : (offset : ℕ) (rows : List (ℕ × Row)) → All IsSmall rows → length (code_of format_2 (entry_instructions offset rows)) ≤ 69 * length rows + 1
entry-few offset [] small = omega arith
entry-few offset (numbered ∷ rows) small =
    let all = rows_instructions offset (numbered ∷ rows) in
    let split : length (code_of format_2 (entry_instructions offset (numbered ∷ rows))) ≡ length (code_of format_2 all) + 1 = ap length (flat_map-append (octets_of format_2) all (NoRow ∷ [])) ∙ length-append (code_of format_2 all) (5 ∷ []) in
    let few = rows-few offset (numbered ∷ rows) small in
    omega (arith, split, few)

small-rows : (table : Contents) (from : ℕ) (rows : List Row) → All (IsRowOf table) rows → All IsSmall (enumerate_from from rows)
small-rows table from [] all = All-nil IsSmall
small-rows table from (row ∷ rows) all =
    let own = All-head (IsRowOf table) row rows all in
    let few : row_size row ≤ 69 = omega (arith, own.few_guards, own.few_actions) in
    All-cons IsSmall (from, row) (enumerate_from (from + 1) rows) few (small-rows table (from + 1) rows (All-tail (IsRowOf table) row rows all))

-- the code of the first entries has few octets
code-few : (table : Contents) → IsTable table → (entry : ℕ) → length (code_to table entry) ≤ 282625 * entry
unfolding code_to
code-few table is zero = omega arith
code-few table is (suc entry) =
    let before = code-few table is entry in
    let rows = rows_in table entry in
    let own = code_of format_2 (entry_instructions (length (code_to table entry)) rows) in
    let few = entry-few (length (code_to table entry)) rows (All-filter (λ n. is_in table entry n.1) IsSmall (enumerate_from 0 table.rows) (small-rows table 0 table.rows is.each_row)) in
    let kept = length-filter_both (λ (n : ℕ × Row). is_in table entry n.1) (λ n. not (is_in table entry n.1)) (λ n. refl) (enumerate_from 0 table.rows) in
    let all = length-enumerate_from 0 table.rows in
    let split = length-append (code_to table entry) own in
    omega (arith, before, few, kept, all, split, is.few_rows)

pub few-entries : (table : Contents) → IsTable table → entry_count table ≤ 8192
few-entries table is = mul-le (length table.states) (length table.kinds) 64 128 is.few_states is.few_kinds

-- a table as texts spell them has an image
pub has-image : (table : Contents) → IsNumberedTable table → HasImage table
has-image table is =
    let few = few-entries table is.within in
    let code = code-few table is.within (entry_count table) in
    record { numbered = is; few_octets = omega (arith, few, code) }

offset-fits : (offset : ℕ) (rows : List (ℕ × Row)) → offset < 4294967295 → IsOffset Two (offset_of offset rows)
offset-fits offset [] small = tt
offset-fits offset (numbered ∷ rows) small = small

-- each entry of an image of a table is an offset or none
pub offsets-fit : (table : Contents) → IsTable table → All (IsOffset Two) (map (entry_offset table) (range_with_len 0 (entry_count table)))
offsets-fit table is =
    let count = entry_count table in
    let all = map (entry_offset table) (range_with_len 0 count) in
    let few = few-entries table is in
    All-from_get_or (IsOffset Two) all None (λ i inside.
    let below : i < count = omega (arith, inside, length-map-range_with_len (entry_offset table) 0 count) in
    let code = code-few table is i in
    rw (get_or-map-range_with_len (entry_offset table) 0 count i i None below (omega arith)) (offset-fits (length (code_to table i)) (rows_in table i) (omega (arith, code, few, below))))
