use Rattle.std.proofs.Common.{◌≡◌, ℕ, ◌==◌, Bool, true, false, not, leb, ltb, List, [], ◌∷◌, ◌++◌, length, map, Option, Some, None, option_map, is_none, if◌then◌else◌, refl, sym, ap, ◌∙◌}
use Rattle.std.specs.List.{filter_map, flat_map}
use Rattle.std.specs.Option.{option_or}
use Rattle.std.proofs.lemmas.List.{append-nil, append_assoc}
use Rattle.std.proofs.lemmas.List.Elements.{filter-append}
use Rattle.text_parts.specs.Lines.{Line, lines, kept, is_plain, is_skipped, is_more, is_row_line, more_lines}
use Rattle.tab_text.specs.Cells.{Cells, is_header, columns_of, row_cells, groups, row_of}
use Rattle.tab_text.specs.Rows.{filled, names_of}
use Rattle.tab_text.specs.Faults.{is_empty, lacks_cell, has_many, has_room, fault_at, codes_of, row_tests, body_tests, kept_tests, line_tests, places, faults_at, end_faults, faults, first_of, first_fault}
use Rattle.tab_text.specs.Passing.{first_code, own_fault, room_fault, row_fault, fault_behind, head_fault}
use Rattle.tab_text.specs.declared.limits.TheConstants.{MAX_ROWS, MAX_TEXT}
use Rattle.tab_text.specs.declared.fault.TextCode.{TextCode}
use Rattle.tab_text.specs.declared.fault.TextCode.TheVariants.{NoHeader, BadByte, NoRowToContinue, EmptyCell, BadName, TooManyRows, TooManyNames, TooManyInRow, TooLong}
use Rattle.tab_text.specs.declared.fault.TextFault.{TextFault}
use Rattle.tab_text.proofs.GroupLemmas.{groups-none, groups-row, groups-more, more-row, more-goes_on, cells-line}

-- tests that a list of them begins with
tests-first-by : (number : ℕ) (holds : Bool) (code : TextCode) (tests : List (Bool × TextCode)) (rest : List TextFault) → first_of (map (fault_at number) (codes_of tests) ++ rest) ≡ option_or (option_map (fault_at number) (first_code tests)) (first_of rest) → first_of (map (fault_at number) (codes_of ((holds, code) ∷ tests)) ++ rest) ≡ option_or (option_map (fault_at number) (first_code ((holds, code) ∷ tests))) (first_of rest)
tests-first-by number true code tests rest is = refl
tests-first-by number false code tests rest is = is

-- the first fault of tests is the first test that holds
tests-first : (number : ℕ) (tests : List (Bool × TextCode)) (rest : List TextFault) → first_of (map (fault_at number) (codes_of tests) ++ rest) ≡ option_or (option_map (fault_at number) (first_code tests)) (first_of rest)
tests-first number [] rest = refl
tests-first number (test ∷ tests) rest = tests-first-by number test.0 test.1 tests rest (tests-first number tests rest)

five-tests : (a b c d e : Bool) → first_code ((a, EmptyCell) ∷ (b, BadName) ∷ (c, TooManyInRow) ∷ (d, TooManyRows) ∷ (e, TooManyNames) ∷ []) ≡ option_or (first_code ((a, EmptyCell) ∷ (b, BadName) ∷ (c, TooManyInRow) ∷ [])) (first_code ((d, TooManyRows) ∷ (e, TooManyNames) ∷ []))
five-tests true b c d e = refl
five-tests false true c d e = refl
five-tests false false true d e = refl
five-tests false false false d e = refl

row-tests : (before : List Cells) (cells : Cells) → first_code (row_tests before cells) ≡ row_fault before cells
unfolding row_tests own_fault room_fault
row-tests before cells =
    five-tests (lacks_cell (length before == 0) cells) (is_none (row_of cells)) (has_many (row_of cells)) (leb MAX_ROWS (length before)) (not (has_room (names_of (filled [] (filter_map row_of (before ++ cells ∷ []))))))

-- the faults of a line and of those behind it, by the first test of the line that holds
pub place-first : (before : List Line) (line : Line) (rest : List Line) (more : List TextFault) → first_of (faults_at (record { before = before; line = line; behind = rest }) ++ more) ≡ option_or (option_map (fault_at line.number) (first_code (line_tests before line rest))) (first_of more)
place-first before line rest more = tests-first line.number (line_tests before line rest) more

-- the faults from a line on
abbrev pub left_faults : List Line → List Line → List TextFault
left_faults before left = flat_map faults_at (places before left) ++ end_faults (kept (before ++ left))

-- the first fault from a line on
step-first : (before : List Line) (line : Line) (rest : List Line) → first_of (left_faults before (line ∷ rest)) ≡ option_or (option_map (fault_at line.number) (first_code (line_tests before line rest))) (first_of (left_faults (before ++ line ∷ []) rest))
step-first before line rest =
    let whole : (before ++ line ∷ []) ++ rest ≡ before ++ line ∷ rest = rw append_assoc refl in
    rw (append_assoc, whole) (place-first before line rest (flat_map faults_at (places (before ++ line ∷ []) rest) ++ end_faults (kept (before ++ line ∷ rest))))

bad-tests : (before : List Line) (line : Line) (rest : List Line) → is_plain line.octets ≡ false → first_code (line_tests before line rest) ≡ Some BadByte
unfolding line_tests
bad-tests before line rest p = rw p refl

skipped-tests : (before : List Line) (line : Line) (rest : List Line) → is_plain line.octets ≡ true → is_skipped line.octets ≡ true → first_code (line_tests before line rest) ≡ None
unfolding line_tests
skipped-tests before line rest p s = rw (p, s) refl

kept-tests : (before : List Line) (line : Line) (rest : List Line) → is_plain line.octets ≡ true → is_skipped line.octets ≡ false → first_code (line_tests before line rest) ≡ first_code (kept_tests (kept before) line (kept rest))
unfolding line_tests
kept-tests before line rest p s = rw (p, s) refl

row-line-tests : (header : Line) (body : List Line) (line : Line) (behind : List Line) → is_row_line line.octets ≡ false → first_code (kept_tests (header ∷ body) line behind) ≡ Some BadByte
unfolding kept_tests
row-line-tests header body line behind r = rw r refl

more-tests : (header : Line) (body : List Line) (line : Line) (behind : List Line) → is_row_line line.octets ≡ true → is_more line.octets ≡ true → first_code (kept_tests (header ∷ body) line behind) ≡ (if is_empty (groups (columns_of header.octets) body) then Some NoRowToContinue else None)
unfolding kept_tests body_tests
more-tests header body line behind r m = rw (r, m) refl

begun-tests : (header : Line) (body : List Line) (line : Line) (behind : List Line) → is_row_line line.octets ≡ true → is_more line.octets ≡ false → first_code (kept_tests (header ∷ body) line behind) ≡ row_fault (groups (columns_of header.octets) body) (row_cells (columns_of header.octets) line (more_lines behind))
unfolding kept_tests body_tests
begun-tests header body line behind r m =
    let columns = columns_of header.octets in
    rw (r, m) (row-tests (groups columns body) (row_cells columns line (more_lines behind)))

head-tests : (line : Line) (behind : List Line) (test : Bool) → is_header line.octets ≡ test → first_code (kept_tests [] line behind) ≡ (if test then None else Some NoHeader)
unfolding kept_tests
head-tests line behind true is = rw is refl
head-tests line behind false is = rw is refl

keeps-skipped : (before : List Line) (line : Line) (all : List Line) → is_skipped line.octets ≡ true → kept before ≡ all → kept (before ++ line ∷ []) ≡ all
keeps-skipped before line all s is =
    filter-append (λ (l : Line). not (is_skipped l.octets)) before (line ∷ []) ∙ rw (s, is) (append-nil all)

keeps-kept : (before : List Line) (line : Line) (all : List Line) → is_skipped line.octets ≡ false → kept before ≡ all → kept (before ++ line ∷ []) ≡ all ++ line ∷ []
keeps-kept before line all s is =
    filter-append (λ (l : Line). not (is_skipped l.octets)) before (line ∷ []) ∙ rw (s, is) refl

-- a pass behind the header, whose rows so far are these, finds the first fault
abbrev pub IsPassed : Line → List Line → List Line → List Cells → Type 0
IsPassed header before left rows = first_of (left_faults before left) ≡ fault_behind header rows left

-- the lines before are the header and others, which have these rows, with the lines in front that go on
pub record IsBehind (header : Line) (before left : List Line) (rows : List Cells) (body : List Line) : Type 0 where
  pub before_is : kept before ≡ header ∷ body
  pub rows_are : groups (columns_of header.octets) (body ++ more_lines (kept left)) ≡ rows

abbrev pub Passes : Line → List Line → Type 0
Passes header rest = (before body : List Line) (rows : List Cells) → IsBehind header before rest rows body → IsPassed header before rest rows

bad-line : (header : Line) (before : List Line) (line : Line) (rest : List Line) (rows : List Cells) → is_plain line.octets ≡ false → IsPassed header before (line ∷ rest) rows
bad-line header before line rest rows p =
    step-first before line rest ∙ rw (bad-tests before line rest p, p, cells-line (columns_of header.octets) line (more_lines (kept rest))) refl

skipped-line : (header : Line) (before body : List Line) (line : Line) (rest : List Line) (rows : List Cells) → is_plain line.octets ≡ true → is_skipped line.octets ≡ true → IsBehind header before (line ∷ rest) rows body → Passes header rest → IsPassed header before (line ∷ rest) rows
skipped-line header before body line rest rows p s at later =
    let behind : IsBehind header (before ++ line ∷ []) rest rows body = record { before_is = keeps-skipped before line (header ∷ body) s at.before_is; rows_are = rw s at at.rows_are } in
    step-first before line rest ∙ rw (skipped-tests before line rest p s, p, s) (later (before ++ line ∷ []) body rows behind)

wrong-line : (header : Line) (before body : List Line) (line : Line) (rest : List Line) (rows : List Cells) → is_plain line.octets ≡ true → is_skipped line.octets ≡ false → is_row_line line.octets ≡ false → IsBehind header before (line ∷ rest) rows body → IsPassed header before (line ∷ rest) rows
wrong-line header before body line rest rows p s r at =
    step-first before line rest ∙ rw (kept-tests before line rest p s, at.before_is, row-line-tests header body line (kept rest) r, p, s, r, cells-line (columns_of header.octets) line (more_lines (kept rest))) refl

more-by : (header : Line) (line : Line) (rest : List Line) (rows : List Cells) (test : Bool) (later : Option TextFault) → is_empty rows ≡ test → later ≡ fault_behind header rows rest → is_plain line.octets ≡ true → is_skipped line.octets ≡ false → is_row_line line.octets ≡ true → is_more line.octets ≡ true → option_or (option_map (fault_at line.number) (if test then Some NoRowToContinue else None)) later ≡ fault_behind header rows (line ∷ rest)
more-by header line rest rows true later is later_is p s r m = rw (p, s, r, m, is, cells-line (columns_of header.octets) line (more_lines (kept rest))) refl
more-by header line rest rows false later is later_is p s r m = rw (p, s, r, m, is) later_is

more-line : (header : Line) (before body : List Line) (line : Line) (rest : List Line) (rows : List Cells) → is_plain line.octets ≡ true → is_skipped line.octets ≡ false → is_row_line line.octets ≡ true → is_more line.octets ≡ true → IsBehind header before (line ∷ rest) rows body → Passes header rest → IsPassed header before (line ∷ rest) rows
more-line header before body line rest rows p s r m at later =
    let columns = columns_of header.octets in
    let front : more_lines (kept (line ∷ rest)) ≡ line ∷ more_lines (kept rest) = rw s (more-goes_on line (kept rest) m) in
    let whole : (body ++ line ∷ []) ++ more_lines (kept rest) ≡ body ++ line ∷ more_lines (kept rest) = append_assoc body (line ∷ []) (more_lines (kept rest)) in
    let same : groups columns ((body ++ line ∷ []) ++ more_lines (kept rest)) ≡ rows = rw whole (rw front at at.rows_are) in
    let none : is_empty (groups columns body) ≡ is_empty rows = sym (groups-more columns body (kept (line ∷ rest))) ∙ ap is_empty at.rows_are in
    let behind : IsBehind header (before ++ line ∷ []) rest rows (body ++ line ∷ []) = record { before_is = keeps-kept before line (header ∷ body) s at.before_is; rows_are = same } in
    step-first before line rest
    ∙ rw (kept-tests before line rest p s, at.before_is, more-tests header body line (kept rest) r m, none) (more-by header line rest rows (is_empty rows) (first_of (left_faults (before ++ line ∷ []) rest)) refl (later (before ++ line ∷ []) (body ++ line ∷ []) rows behind) p s r m)

begun-line : (header : Line) (before body : List Line) (line : Line) (rest : List Line) (rows : List Cells) → is_plain line.octets ≡ true → is_skipped line.octets ≡ false → is_row_line line.octets ≡ true → is_more line.octets ≡ false → IsBehind header before (line ∷ rest) rows body → Passes header rest → IsPassed header before (line ∷ rest) rows
unfolding row_cells
begun-line header before body line rest rows p s r m at later =
    let columns = columns_of header.octets in
    let cells = row_cells columns line (more_lines (kept rest)) in
    let front : more_lines (kept (line ∷ rest)) ≡ [] = rw s (more-row line (kept rest) m) in
    let rows_are : groups columns body ≡ rows = rw (front, append-nil body) at at.rows_are in
    let whole : (body ++ line ∷ []) ++ more_lines (kept rest) ≡ body ++ line ∷ more_lines (kept rest) = append_assoc body (line ∷ []) (more_lines (kept rest)) in
    let one : groups columns ((body ++ line ∷ []) ++ more_lines (kept rest)) ≡ rows ++ cells ∷ [] = rw (whole, groups-row columns body line (kept rest) m, rows_are) refl in
    let behind : IsBehind header (before ++ line ∷ []) rest (rows ++ cells ∷ []) (body ++ line ∷ []) = record { before_is = keeps-kept before line (header ∷ body) s at.before_is; rows_are = one } in
    step-first before line rest
    ∙ rw (kept-tests before line rest p s, at.before_is, begun-tests header body line (kept rest) r m, rows_are, p, s, r, m, cells-line columns line (more_lines (kept rest)), later (before ++ line ∷ []) (body ++ line ∷ []) (rows ++ cells ∷ []) behind) refl

line-first : (header : Line) (before body : List Line) (line : Line) (rest : List Line) (rows : List Cells) (plain skipped row more : Bool) → is_plain line.octets ≡ plain → is_skipped line.octets ≡ skipped → is_row_line line.octets ≡ row → is_more line.octets ≡ more → IsBehind header before (line ∷ rest) rows body → Passes header rest → IsPassed header before (line ∷ rest) rows
line-first header before body line rest rows false skipped row more p s r m at later = bad-line header before line rest rows p
line-first header before body line rest rows true true row more p s r m at later = skipped-line header before body line rest rows p s at later
line-first header before body line rest rows true false false more p s r m at later = wrong-line header before body line rest rows p s r at
line-first header before body line rest rows true false true true p s r m at later = more-line header before body line rest rows p s r m at later
line-first header before body line rest rows true false true false p s r m at later = begun-line header before body line rest rows p s r m at later

end-first : (header : Line) (rows : List Cells) (test : Bool) → is_empty rows ≡ test → first_of (if test then fault_at header.number EmptyCell ∷ [] else []) ≡ (if test then Some (fault_at header.number EmptyCell) else None)
end-first header rows true is = refl
end-first header rows false is = refl

-- the first fault of the lines behind a header and others is what a pass over them finds
pub passed : (header : Line) (left : List Line) → Passes header left
passed header [] before body rows at =
    let same : groups (columns_of header.octets) body ≡ rows = rw (append-nil body) at at.rows_are in
    rw (append-nil before, at.before_is, same) (end-first header rows (is_empty rows) refl)
passed header (line ∷ rest) before body rows at =
    line-first header before body line rest rows (is_plain line.octets) (is_skipped line.octets) (is_row_line line.octets) (is_more line.octets) refl refl refl refl at (passed header rest)

head-by : (before : List Line) (line : Line) (rest : List Line) (plain skipped head : Bool) → is_plain line.octets ≡ plain → is_skipped line.octets ≡ skipped → is_header line.octets ≡ head → kept before ≡ [] → (kept (before ++ line ∷ []) ≡ [] → first_of (left_faults (before ++ line ∷ []) rest) ≡ head_fault rest) → first_of (left_faults before (line ∷ rest)) ≡ head_fault (line ∷ rest)
head-by before line rest false skipped head p s h none later = step-first before line rest ∙ rw (bad-tests before line rest p, p) refl
head-by before line rest true true head p s h none later =
    step-first before line rest ∙ rw (skipped-tests before line rest p s, p, s) (later (keeps-skipped before line [] s none))
head-by before line rest true false true p s h none later =
    let behind : IsBehind line (before ++ line ∷ []) rest [] [] = record { before_is = keeps-kept before line [] s none; rows_are = groups-none (columns_of line.octets) (kept rest) } in
    step-first before line rest
    ∙ rw (kept-tests before line rest p s, none, head-tests line (kept rest) true h, p, s, h) (passed line rest (before ++ line ∷ []) [] [] behind)
head-by before line rest true false false p s h none later =
    step-first before line rest ∙ rw (kept-tests before line rest p s, none, head-tests line (kept rest) false h, p, s, h) refl

-- the first fault of lines before which there is no header
head-first : (left before : List Line) → kept before ≡ [] → first_of (left_faults before left) ≡ head_fault left
head-first [] before none = rw (append-nil before, none) refl
head-first (line ∷ rest) before none =
    head-by before line rest (is_plain line.octets) (is_skipped line.octets) (is_header line.octets) refl refl refl none (head-first rest (before ++ line ∷ []))

text-first : (text : List ℕ) → first_of (map (fault_at 0) (codes_of ((ltb MAX_TEXT (length text), TooLong) ∷ [])) ++ flat_map faults_at (places [] (lines text)) ++ end_faults (kept (lines text))) ≡ option_or (option_map (fault_at 0) (first_code ((ltb MAX_TEXT (length text), TooLong) ∷ []))) (head_fault (lines text))
text-first text =
    rw append_assoc (tests-first 0 ((ltb MAX_TEXT (length text), TooLong) ∷ []) (left_faults [] (lines text)) ∙ rw (head-first (lines text) [] refl) refl)

-- the first fault of a text is that it is too long, or what a pass over its lines finds
pub first_fault-is : (text : List ℕ) → first_fault text ≡ option_or (option_map (fault_at 0) (first_code ((ltb MAX_TEXT (length text), TooLong) ∷ []))) (head_fault (lines text))
unfolding first_fault faults
first_fault-is text = text-first text
