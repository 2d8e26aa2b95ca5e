use Rattle.std.proofs.Common.{◌≡◌, ℕ, ◌<◌, ◌≤◌, Bool, true, false, not, leb, ltb, ◌==◌, List, [], ◌∷◌, ◌++◌, length, Option, Some, None, option_map, Result, Ok, Err, if◌then◌else◌, arith, refl, ap, ◌∙◌}
use Rattle.std.specs.List.{filter_map, cons_option}
use Rattle.std.specs.Option.{option_or}
use Rattle.std.proofs.lemmas.Bool.Decides.{nat_tests}
use Rattle.text_parts.specs.Lines.{Line, lines, kept, is_plain, is_skipped, is_more, is_row_line, more_lines}
use Rattle.tab_text.specs.Cells.{Cells, NamedRow, is_header, columns_of, row_cells, groups, row_of}
use Rattle.tab_text.specs.Rows.{state_behind, filled, spelled, names_of}
use Rattle.tab_text.specs.Faults.{fault_at, is_empty, has_room, first_fault}
use Rattle.tab_text.specs.Passing.{first_code, own_fault, room_fault, row_fault, end_fault, fault_behind, head_fault}
use Rattle.tab_text.specs.Reading.{first_kept, first_row}
use Rattle.tab_text.specs.Reader.{last_state}
use Rattle.tab_text.specs.declared.fault.TextCode.{TextCode}
use Rattle.tab_text.specs.declared.fault.TextCode.TheVariants.{NoHeader, BadByte, NoRowToContinue, EmptyCell, TooManyRows, TooManyNames, TooLong}
use Rattle.tab_text.specs.declared.fault.TextFault.{TextFault}
use Rattle.tab_text.proofs.FaultLemmas.{first_fault-is}
use Rattle.tab_text.proofs.GroupLemmas.{cells-line}

-- what the first line that is kept says of the first fault, where it should be the header
abbrev pub HeadAs : List Line → Result (Option (Line × List Line)) TextFault → Type 0
HeadAs left (Err fault) = head_fault left ≡ Some fault
HeadAs left (Ok None) = head_fault left ≡ Some (fault_at 0 NoHeader)
HeadAs left (Ok (Some found)) =
    (head_fault left ≡ (if is_header found.0.octets then fault_behind found.0 [] found.1 else Some (fault_at found.0.number NoHeader)))
    × (kept left ≡ found.0 ∷ kept found.1)

HeadAs-same : (left other : List Line) (found : Result (Option (Line × List Line)) TextFault) → head_fault other ≡ head_fault left → kept other ≡ kept left → HeadAs left found → HeadAs other found
HeadAs-same left other (Err fault) f k is = f ∙ is
HeadAs-same left other (Ok None) f k is = f ∙ is
HeadAs-same left other (Ok (Some found)) f k is = (f ∙ is.0, k ∙ is.1)

head-cons : (line : Line) (rest : List Line) (plain skipped : Bool) → is_plain line.octets ≡ plain → is_skipped line.octets ≡ skipped → HeadAs rest (first_kept rest) → HeadAs (line ∷ rest) (first_kept (line ∷ rest))
head-cons line rest false skipped p s found_is =
    let found : first_kept (line ∷ rest) ≡ Err (fault_at line.number BadByte) = rw p refl in
    let fault : head_fault (line ∷ rest) ≡ Some (fault_at line.number BadByte) = rw p refl in
    rw found fault
head-cons line rest true true p s found_is =
    let found : first_kept (line ∷ rest) ≡ first_kept rest = rw (p, s) refl in
    let same : head_fault (line ∷ rest) ≡ head_fault rest = rw (p, s) refl in
    let keeps : kept (line ∷ rest) ≡ kept rest = rw s refl in
    rw found (HeadAs-same rest (line ∷ rest) (first_kept rest) same keeps found_is)
head-cons line rest true false p s found_is =
    let found : first_kept (line ∷ rest) ≡ Ok (Some (line, rest)) = rw (p, s) refl in
    let fault : head_fault (line ∷ rest) ≡ (if is_header line.octets then fault_behind line [] rest else Some (fault_at line.number NoHeader)) = rw (p, s) refl in
    let keeps : kept (line ∷ rest) ≡ line ∷ kept rest = rw s refl in
    rw found (fault, keeps)

head-first : (left : List Line) → HeadAs left (first_kept left)
head-first [] = refl
head-first (line ∷ rest) = head-cons line rest (is_plain line.octets) (is_skipped line.octets) refl refl (head-first rest)

pub head-found : (left : List Line) (found : Result (Option (Line × List Line)) TextFault) → first_kept left ≡ found → HeadAs left found
head-found left found is = rw is at (head-first left)

-- a row begins on a line, and what is left are the lines behind it
pub record BeginsRow (header : Line) (rows : List Cells) (left : List Line) (line : Line) (rest : List Line) (cells : Cells) : Type 0 where
  pub fault : fault_behind header rows left ≡ option_or (option_map (fault_at line.number) (row_fault rows cells)) (fault_behind header (rows ++ cells ∷ []) rest)
  pub groups : groups (columns_of header.octets) (kept left) ≡ cells ∷ groups (columns_of header.octets) (kept rest)
  pub shorter : length rest < length left

-- what the first line on which a row begins says of the first fault
abbrev pub RowAs : Line → List Cells → List Line → Result (Option (Line × List Line)) TextFault → Type 0
RowAs header rows left (Err fault) = fault_behind header rows left ≡ Some fault
RowAs header rows left (Ok None) =
    (fault_behind header rows left ≡ end_fault header rows) × (groups (columns_of header.octets) (kept left) ≡ [])
RowAs header rows left (Ok (Some found)) =
    BeginsRow header rows left found.0 found.1 (row_cells (columns_of header.octets) found.0 (more_lines (kept found.1)))

RowAs-same : (header : Line) (rows : List Cells) (line : Line) (left : List Line) (found : Result (Option (Line × List Line)) TextFault) → fault_behind header rows (line ∷ left) ≡ fault_behind header rows left → groups (columns_of header.octets) (kept (line ∷ left)) ≡ groups (columns_of header.octets) (kept left) → RowAs header rows left found → RowAs header rows (line ∷ left) found
RowAs-same header rows line left (Err fault) f g is = f ∙ is
RowAs-same header rows line left (Ok None) f g is = (f ∙ is.0, g ∙ is.1)
RowAs-same header rows line left (Ok (Some found)) f g is =
    let short = is.shorter in
    record { fault = f ∙ is.fault; groups = g ∙ is.groups; shorter = omega (arith, short) }

row-cons : (header : Line) (rows : List Cells) (line : Line) (rest : List Line) (some plain skipped row more : Bool) → not (is_empty rows) ≡ some → is_plain line.octets ≡ plain → is_skipped line.octets ≡ skipped → is_row_line line.octets ≡ row → is_more line.octets ≡ more → RowAs header rows rest (first_row some rest) → RowAs header rows (line ∷ rest) (first_row some (line ∷ rest))
row-cons header rows line rest some false skipped row more is p s r m found_is =
    let found : first_row some (line ∷ rest) ≡ Err (fault_at line.number BadByte) = rw p refl in
    let fault : fault_behind header rows (line ∷ rest) ≡ Some (fault_at line.number BadByte) = rw (p, cells-line (columns_of header.octets) line (more_lines (kept rest))) refl in
    rw found fault
row-cons header rows line rest some true true row more is p s r m found_is =
    let found : first_row some (line ∷ rest) ≡ first_row some rest = rw (p, s) refl in
    let fault : fault_behind header rows (line ∷ rest) ≡ fault_behind header rows rest = rw (p, s) refl in
    let same : groups (columns_of header.octets) (kept (line ∷ rest)) ≡ groups (columns_of header.octets) (kept rest) = rw s refl in
    rw found (RowAs-same header rows line rest (first_row some rest) fault same found_is)
row-cons header rows line rest some true false false more is p s r m found_is =
    let found : first_row some (line ∷ rest) ≡ Err (fault_at line.number BadByte) = rw (p, s, r) refl in
    let fault : fault_behind header rows (line ∷ rest) ≡ Some (fault_at line.number BadByte) = rw (p, s, r, cells-line (columns_of header.octets) line (more_lines (kept rest))) refl in
    rw found fault
row-cons header rows line rest true true false true true is p s r m found_is =
    let found : first_row true (line ∷ rest) ≡ first_row true rest = rw (p, s, r, m) refl in
    let fault : fault_behind header rows (line ∷ rest) ≡ fault_behind header rows rest = rw (p, s, r, m, is) refl in
    let same : groups (columns_of header.octets) (kept (line ∷ rest)) ≡ groups (columns_of header.octets) (kept rest) = rw (s, m) refl in
    rw found (RowAs-same header rows line rest (first_row true rest) fault same found_is)
row-cons header rows line rest false true false true true is p s r m found_is =
    let found : first_row false (line ∷ rest) ≡ Err (fault_at line.number NoRowToContinue) = rw (p, s, r, m) refl in
    let fault : fault_behind header rows (line ∷ rest) ≡ Some (fault_at line.number NoRowToContinue) = rw (p, s, r, m, is, cells-line (columns_of header.octets) line (more_lines (kept rest))) refl in
    rw found fault
row-cons header rows line rest some true false true false is p s r m found_is =
    let cells = row_cells (columns_of header.octets) line (more_lines (kept rest)) in
    let found : first_row some (line ∷ rest) ≡ Ok (Some (line, rest)) = rw (p, s, r, m) refl in
    let fault : fault_behind header rows (line ∷ rest) ≡ option_or (option_map (fault_at line.number) (row_fault rows cells)) (fault_behind header (rows ++ cells ∷ []) rest) = rw (p, s, r, m, cells-line (columns_of header.octets) line (more_lines (kept rest))) refl in
    let same : groups (columns_of header.octets) (kept (line ∷ rest)) ≡ cells ∷ groups (columns_of header.octets) (kept rest) = rw (s, m) refl in
    rw found (record { fault = fault; groups = same; shorter = omega arith })

row-first : (header : Line) (rows : List Cells) (left : List Line) → RowAs header rows left (first_row (not (is_empty rows)) left)
row-first header rows [] = (refl, refl)
row-first header rows (line ∷ rest) =
    row-cons header rows line rest (not (is_empty rows)) (is_plain line.octets) (is_skipped line.octets) (is_row_line line.octets) (is_more line.octets) refl refl refl refl refl (row-first header rows rest)

some-rows : (rows : List Cells) (count : ℕ) → count ≡ length rows → (not (count == 0)) ≡ (not (is_empty rows))
some-rows [] count is = rw is refl
some-rows (cells ∷ rows) count is = let isnt : (count == 0) ≡ false = grind (arith, nat_tests) in rw isnt refl

pub row-next : (header : Line) (rows : List Cells) (left : List Line) (count : ℕ) (found : Result (Option (Line × List Line)) TextFault) → count ≡ length rows → first_row (not (count == 0)) left ≡ found → RowAs header rows left found
row-next header rows left count found count_is is =
    let same : first_row (not (is_empty rows)) left ≡ found = rw (← some-rows rows count count_is) is in
    rw same at (row-first header rows left)

-- one more row whose cells are good
filter_map-cons : (o : Option NamedRow) (front behind : List NamedRow) → cons_option o (front ++ behind) ≡ cons_option o front ++ behind
filter_map-cons None front behind = refl
filter_map-cons (Some row) front behind = refl

pub filter_map-push : (xs : List Cells) (x : Cells) (row : NamedRow) → row_of x ≡ Some row → filter_map row_of (xs ++ x ∷ []) ≡ filter_map row_of xs ++ row ∷ []
filter_map-push [] x row is = rw is refl
filter_map-push (y ∷ xs) x row is = rw (filter_map-push xs x row is) (filter_map-cons (row_of y) (filter_map row_of xs) (row ∷ []))

pub filled-push : (before : List ℕ) (rows : List NamedRow) (row : NamedRow) → filled before (rows ++ row ∷ []) ≡ filled before rows ++ record row { state = state_behind (last_state before (filled before rows)) row.state } ∷ []
filled-push before [] row = refl
filled-push before (first ∷ rows) row = ap (λ (rest : List NamedRow). record first { state = state_behind before first.state } ∷ rest) (filled-push (state_behind before first.state) rows row)

pub last_state-push : (before : List ℕ) (rows : List NamedRow) (row : NamedRow) → last_state before (rows ++ row ∷ []) ≡ row.state
last_state-push before [] row = refl
last_state-push before (first ∷ rows) row = last_state-push first.state rows row

pub spelled-push : (rows : List Cells) (cells : Cells) (row : NamedRow) → row_of cells ≡ Some row → spelled (rows ++ cells ∷ []) ≡ spelled rows ++ record row { state = state_behind (last_state [] (spelled rows)) row.state } ∷ []
spelled-push rows cells row is = rw (filter_map-push rows cells row is) (filled-push [] (filter_map row_of rows) row)

-- the fault of a row, part by part
pub row-own : (rows : List Cells) (cells : Cells) (count : ℕ) (code : TextCode) → count ≡ length rows → own_fault (count == 0) cells ≡ Some code → row_fault rows cells ≡ Some code
row-own rows cells count code is own = rw (← is, own) refl

row-room : (rows : List Cells) (cells : Cells) (count : ℕ) → count ≡ length rows → own_fault (count == 0) cells ≡ None → row_fault rows cells ≡ room_fault rows cells
row-room rows cells count is sound = rw (← is, sound) refl

room-over : (before : List Cells) (cells : Cells) → 4096 ≤ length before → room_fault before cells ≡ Some TooManyRows
unfolding room_fault
room-over before cells over = let full : leb 4096 (length before) ≡ true = grind (arith, nat_tests) in rw full refl

pub row-over : (rows : List Cells) (cells : Cells) (count : ℕ) → count ≡ length rows → own_fault (count == 0) cells ≡ None → 4096 ≤ count → row_fault rows cells ≡ Some TooManyRows
row-over rows cells count is sound over = row-room rows cells count is sound ∙ room-over rows cells (omega (arith, is, over))

names-fault : (test : Bool) → first_code ((not test, TooManyNames) ∷ []) ≡ (if test then None else Some TooManyNames)
names-fault true = refl
names-fault false = refl

room-under : (before : List Cells) (cells : Cells) → length before < 4096 → room_fault before cells ≡ (if has_room (names_of (filled [] (filter_map row_of (before ++ cells ∷ [])))) then None else Some TooManyNames)
unfolding room_fault
room-under before cells under =
    let some : leb 4096 (length before) ≡ false = grind (arith, nat_tests) in
    rw some (names-fault (has_room (names_of (filled [] (filter_map row_of (before ++ cells ∷ []))))))

pub row-under : (rows : List Cells) (cells : Cells) (count : ℕ) → count ≡ length rows → own_fault (count == 0) cells ≡ None → count < 4096 → row_fault rows cells ≡ (if has_room (names_of (spelled (rows ++ cells ∷ []))) then None else Some TooManyNames)
row-under rows cells count is sound under = row-room rows cells count is sound ∙ room-under rows cells (omega (arith, is, under))

-- a header without rows
pub end-empty : (header : Line) (rows : List Cells) → length rows ≡ 0 → end_fault header rows ≡ Some (fault_at header.number EmptyCell)
end-empty header [] none = refl
end-empty header (cells ∷ rows) none = absurd (omega arith)

pub end-some : (header : Line) (rows : List Cells) → 0 < length rows → end_fault header rows ≡ None
end-some header [] some = absurd (omega arith)
end-some header (cells ∷ rows) some = refl

-- a row has a fault where there is no room for its names, and else the lines behind it decide
pub room-cases : (test : Bool) (number line : ℕ) (rest : Option TextFault) → line ≡ number → option_or (option_map (fault_at number) (if test then None else Some TooManyNames)) rest ≡ (if test then rest else Some (fault_at line TooManyNames))
room-cases true number line rest is = refl
room-cases false number line rest is = rw is refl

-- a text within its limit has the first fault of its lines
pub first_fault-within : (text : List ℕ) → length text ≤ 1048576 → first_fault text ≡ head_fault (lines text)
first_fault-within text within =
    let short : ltb 1048576 (length text) ≡ false = grind (arith, nat_tests) in
    first_fault-is text ∙ rw short refl

pub first_fault-over : (text : List ℕ) → 1048576 < length text → first_fault text ≡ Some (fault_at 0 TooLong)
first_fault-over text over =
    let long : ltb 1048576 (length text) ≡ true = grind (arith, nat_tests) in
    first_fault-is text ∙ rw long refl
