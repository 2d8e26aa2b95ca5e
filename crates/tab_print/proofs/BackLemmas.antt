use Rattle.std.proofs.Common.{◌≡◌, ℕ, ◌+◌, ◌<◌, ◌≤◌, Bool, true, false, ◌&&◌, ◌==◌, leb, ltb, List, [], ◌∷◌, ◌++◌, length, map, max, fold, Some, None, codes, arith, refl, sym, ap, ◌∙◌, get_or}
use Rattle.std.specs.List.{All, slice_split, flat_map, filter_map}
use Rattle.std.proofs.lemmas.Bool.Decides.{nat_tests}
use Rattle.std.proofs.lemmas.List.{append-nil, append_assoc, length-map, length-append, get_or-map}
use Rattle.std.proofs.lemmas.List.Elements.{All-head, All-tail, All-cons}
use Rattle.std.proofs.lemmas.List.Splits.{slice_split_at}
use Rattle.text_parts.specs.Lines.{Line, lines, numbered_from, kept, is_plain, is_skipped, is_more, is_row_line, more_lines}
use Rattle.tab_text.specs.Names.{is_name}
use Rattle.tab_text.specs.Cells.{Cells, NamedRow, columns_at, columns_of, with_blank, row_cells, groups, is_state, row_of}
use Rattle.tab_text.specs.Contents.{Contents, IsRowOf}
use Rattle.tab_text.specs.Rows.{Names, state_behind, filled, spelled, rows_of, names_of, table_with, table_of, name_at, row_named, table_names, IsWellNamed, IsNumberedTable}
use Rattle.tab_text.specs.Faults.{is_empty, has_room}
use Rattle.tab_text.specs.Passing.{own_fault, room_fault, fault_behind, head_fault}
use Rattle.tab_text.specs.Reader.{last_state}
use Rattle.tab_text.specs.Rooms.{with_row}
use Rattle.tab_text.specs.declared.limits.TheConstants.{MAX_STATES, MAX_KINDS, MAX_GUARDS, MAX_ACTIONS}
use Rattle.tab_text.proofs.NamesLemmas.{names_of-push}
use Rattle.tab_text.proofs.RoomLemmas.{length-with_name, length-with_names}
use Rattle.tab_text.proofs.RoomsLemmas.{FitsTable, fits-from}
use Rattle.tab_text.proofs.ReaderLemmas.{spelled-push, first_fault-within}
use Rattle.tab_text.specs.declared.row.Row.{Row}
use Rattle.tab_print.specs.Cells.{heading, condition, actions_text, cell_text}
use Rattle.tab_print.specs.Printed.{width, room, widths_of, padded, header_line, row_line, printed}
use Rattle.tab_print.specs.declared.column.Column.{Column}
use Rattle.tab_print.specs.declared.column.Column.TheVariants.{State, Event, Action, Next}
use Rattle.tab_print.specs.ReadBack.{IsReadAs}
use Rattle.tab_print.specs.declared.printing.Widths.{Widths}
use Rattle.tab_print.proofs.TextLemmas.{and-both}
use Rattle.tab_print.proofs.NumberLemmas.{numbers-back}
use Rattle.tab_print.proofs.CellLemmas.{name-cell, event-cell, actions-cell, event-tokens, actions-read, some-action}
use Rattle.tab_print.proofs.LineLemmas.{line_with, behind_state, Fits, cell-state, cell-event, cell-action, cell-next, line-plain, line-begins, behind-blanks, header-is, header-columns}

-- what is printed of a row: its cells, and its line without the newline
abbrev pub event_text : NamedRow → List ℕ
event_text row = row.kind ++ condition row.guards

abbrev pub cells_with : ℕ → NamedRow → Cells
cells_with number row =
    record { line = number; state = row.state; event = event_text row; action = actions_text row.actions; next = row.next }

abbrev pub row_text : ℕ → ℕ → ℕ → NamedRow → List ℕ
row_text s e a row = line_with s e a row.state (event_text row) (actions_text row.actions) row.next

-- a row that fits into the columns
pub record IsPrintable (s e a : ℕ) (row : NamedRow) : Type 0 where
  pub well : IsWellNamed row
  pub guards : length row.guards ≤ 4
  pub actions : length row.actions ≤ 8
  pub fits : Fits s e a row.state (event_text row) (actions_text row.actions) row.next

blank-nil : (text : List ℕ) → with_blank text [] ≡ text
blank-nil [] = refl
blank-nil (b ∷ bs) = refl

cells-are : (s e a number : ℕ) (row : NamedRow) → IsPrintable s e a row → row_cells (columns_at (2 + s) (2 + s + e) (2 + s + e + a)) (record { number = number; octets = row_text s e a row }) [] ≡ cells_with number row
unfolding row_cells
cells-are s e a number row is =
    let f = is.fits in
    rw (cell-state s e a row.state (event_text row) (actions_text row.actions) row.next f, cell-event s e a row.state (event_text row) (actions_text row.actions) row.next f, cell-action s e a row.state (event_text row) (actions_text row.actions) row.next f, cell-next s e a row.state (event_text row) (actions_text row.actions) row.next f, append-nil row.state, append-nil row.next, blank-nil (event_text row), blank-nil (actions_text row.actions))
    refl

name-some : (name : List ℕ) → is_name name ≡ true → is_empty name ≡ false
unfolding is_name
name-some [] is = cc
name-some (b ∷ bs) is = refl

state-named : (name : List ℕ) → is_name name ≡ true → is_state name ≡ true
state-named [] is = refl
state-named (b ∷ bs) is = is

row-reads : (number : ℕ) (row : NamedRow) → IsWellNamed row → row_of (cells_with number row) ≡ Some row
unfolding row_of
row-reads number row well =
    let event = event-tokens row.kind row.guards well.kind well.guards in
    rw (event.1, state-named row.state well.state, well.kind, well.next, event.2, actions-read row.actions well.actions) refl

under-limit : (limit count : ℕ) → count ≤ limit → ltb limit count ≡ false
under-limit limit count fits = grind (arith, nat_tests)

and-empty : (first : Bool) → (first && false) ≡ false
and-empty true = refl
and-empty false = refl

own-none : (s e a number : ℕ) (row : NamedRow) (is_first : Bool) → IsPrintable s e a row → own_fault is_first (cells_with number row) ≡ None
unfolding own_fault
own-none s e a number row is_first is =
    let well = is.well in
    let event = event-tokens row.kind row.guards well.kind well.guards in
    let action = some-action row.actions well.actions in
    rw (event.1, action.2, name-some row.next well.next, name-some row.state well.state, and-empty is_first, row-reads number row well, under-limit 4 (length row.guards) is.guards, under-limit 8 (length row.actions) is.actions) refl

-- the lines behind the header: the rows', and an empty one behind the last newline
abbrev pub body : ℕ → ℕ → ℕ → ℕ → List NamedRow → List Line
body s e a number [] = record { number = number; octets = [] } ∷ []
body s e a number (row ∷ rows) = record { number = number; octets = row_text s e a row } ∷ body s e a (number + 1) rows

abbrev pub cells_from : ℕ → List NamedRow → List Cells
cells_from number [] = []
cells_from number (row ∷ rows) = cells_with number row ∷ cells_from (number + 1) rows

abbrev ArePrintable : ℕ → ℕ → ℕ → List NamedRow → Type 0
ArePrintable s e a [] = Unit
ArePrintable s e a (row ∷ rows) = IsPrintable s e a row × ArePrintable s e a rows

row-kept : (s e a : ℕ) (row : NamedRow) → IsPrintable s e a row → (is_skipped (row_text s e a row) ≡ false) × (is_more (row_text s e a row) ≡ false) × (is_row_line (row_text s e a row) ≡ true)
row-kept s e a row is =
    behind-blanks (padded s row.state ++ behind_state e a (event_text row) (actions_text row.actions) row.next) (line-begins s e a row.state (event_text row) (actions_text row.actions) row.next is.fits)

more-none : (s e a number : ℕ) (rows : List NamedRow) → ArePrintable s e a rows → more_lines (kept (body s e a number rows)) ≡ []
more-none s e a number [] all = refl
more-none s e a number (row ∷ rows) all =
    rw (row-kept s e a row all.0).0 refl

groups-are : (s e a number : ℕ) (rows : List NamedRow) → ArePrintable s e a rows → groups (columns_at (2 + s) (2 + s + e) (2 + s + e + a)) (kept (body s e a number rows)) ≡ cells_from number rows
groups-are s e a number [] all = refl
groups-are s e a number (row ∷ rows) all =
    let k = row-kept s e a row all.0 in
    rw (k.0, more-none s e a (number + 1) rows all.1, cells-are s e a number row all.0, groups-are s e a (number + 1) rows all.1) refl

found-rows : (s e a number : ℕ) (rows : List NamedRow) → ArePrintable s e a rows → filter_map row_of (cells_from number rows) ≡ rows
found-rows s e a number [] all = refl
found-rows s e a number (row ∷ rows) all =
    rw (row-reads number row all.0.well, found-rows s e a (number + 1) rows all.1) refl

state-kept : (before state : List ℕ) → is_name state ≡ true → state_behind before state ≡ state
unfolding is_name
state-kept before [] is = cc
state-kept before (b ∷ bs) is = refl

filled-same : (s e a : ℕ) (before : List ℕ) (rows : List NamedRow) → ArePrintable s e a rows → filled before rows ≡ rows
filled-same s e a before [] all = refl
filled-same s e a before (row ∷ rows) all =
    rw (state-kept before row.state all.0.well.state, filled-same s e a row.state rows all.1) refl

spelled-are : (s e a number : ℕ) (rows : List NamedRow) → ArePrintable s e a rows → spelled (cells_from number rows) ≡ rows
spelled-are s e a number rows all =
    ap (filled []) (found-rows s e a number rows all) ∙ filled-same s e a [] rows all

-- names that have room with more have room alone
fits-to : (names : Names) → FitsTable names → has_room names ≡ true
unfolding has_room
fits-to names fits =
    let s = fits.states in
    let k = fits.kinds in
    let g = fits.guards in
    let a = fits.actions in
    let st : leb (length names.states) MAX_STATES ≡ true = grind (arith, nat_tests) in
    let kt : leb (length names.kinds) MAX_KINDS ≡ true = grind (arith, nat_tests) in
    let gt : leb (length names.guards) MAX_GUARDS ≡ true = grind (arith, nat_tests) in
    let at : leb (length names.actions) MAX_ACTIONS ≡ true = grind (arith, nat_tests) in
    rw (st, kt, gt, at) refl

room-before : (names : Names) (row : NamedRow) → has_room (with_row names row) ≡ true → has_room names ≡ true
unfolding with_row
room-before names row is =
    let fits = fits-from (with_row names row) is in
    let s = fits.states in
    let k = fits.kinds in
    let g = fits.guards in
    let a = fits.actions in
    fits-to names (record {
      states = omega (arith, s, length-with_names names.states (row.state ∷ row.next ∷ []));
      kinds = omega (arith, k, length-with_name names.kinds row.kind);
      guards = omega (arith, g, length-with_names names.guards row.guards);
      actions = omega (arith, a, length-with_names names.actions row.actions);
    })

room-front : (rest front : List NamedRow) → has_room (names_of (front ++ rest)) ≡ true → has_room (names_of front) ≡ true
room-front [] front is = rw (append-nil front) at is
room-front (row ∷ rest) front is =
    let whole : (front ++ row ∷ []) ++ rest ≡ front ++ row ∷ rest = append_assoc front (row ∷ []) rest in
    let more = room-front rest (front ++ row ∷ []) (rw whole is) in
    room-before (names_of front) row (rw (names_of-push front row) at more)

over-none : (count : ℕ) → count < 4096 → leb 4096 count ≡ false
over-none count under = grind (arith, nat_tests)

room-none : (rows : List Cells) (cells : Cells) → length rows < 4096 → has_room (names_of (spelled (rows ++ cells ∷ []))) ≡ true → room_fault rows cells ≡ None
unfolding room_fault
room-none rows cells under room = rw (over-none (length rows) under, room) refl

-- no fault is found behind a header and these rows
no-fault : (s e a : ℕ) (header : Line) (number : ℕ) (done : List Cells) (before rows : List NamedRow) → columns_of header.octets ≡ columns_at (2 + s) (2 + s + e) (2 + s + e + a) → spelled done ≡ before → length done ≡ length before → 0 < length before + length rows → length before + length rows ≤ 4096 → has_room (names_of (before ++ rows)) ≡ true → ArePrintable s e a rows → fault_behind header done (body s e a number rows) ≡ None
no-fault s e a header number [] before [] columns is count some few room all = absurd (omega (arith, count, some))
no-fault s e a header number (cells ∷ done) before [] columns is count some few room all = refl
no-fault s e a header number done before (row ∷ rows) columns is count some few room all =
    let k = row-kept s e a row all.0 in
    let f = all.0.fits in
    let plain = line-plain s e a row.state (event_text row) (actions_text row.actions) row.next f in
    let cells = cells_with number row in
    let cut : row_cells (columns_of header.octets) (record { number = number; octets = row_text s e a row }) (more_lines (kept (body s e a (number + 1) rows))) ≡ cells = rw (columns, more-none s e a (number + 1) rows all.1) (cells-are s e a number row all.0) in
    let pushed : spelled (done ++ cells ∷ []) ≡ before ++ row ∷ [] = spelled-push done cells row (row-reads number row all.0.well) ∙ rw (is, state-kept (last_state [] before) row.state all.0.well.state) refl in
    let whole : (before ++ row ∷ []) ++ rows ≡ before ++ row ∷ rows = append_assoc before (row ∷ []) rows in
    let room_here : has_room (names_of (before ++ row ∷ [])) ≡ true = room-front rows (before ++ row ∷ []) (rw whole room) in
    let own = own-none s e a number row (length done == 0) all.0 in
    let fits = room-none done cells (omega (arith, count, few)) (rw pushed room_here) in
    let longer : length (before ++ row ∷ []) ≡ length before + 1 = length-append before (row ∷ []) in
    let more : length (done ++ cells ∷ []) ≡ length done + 1 = length-append done (cells ∷ []) in
    let rest = no-fault s e a header (number + 1) (done ++ cells ∷ []) (before ++ row ∷ []) rows columns pushed (omega (arith, count, longer, more)) (omega (arith, longer)) (omega (arith, longer, few)) (rw whole room) all.1 in
    rw (cut, plain, k.0, own, fits) rest

nest : (a b c d e f : List ℕ) → ((((a ++ b) ++ c) ++ d) ++ e) ++ f ≡ (a ++ (b ++ (c ++ (d ++ e)))) ++ f
nest a b c d e f =
    ap (λ (text : List ℕ). text ++ f) (append_assoc ((a ++ b) ++ c) d e ∙ append_assoc (a ++ b) c (d ++ e) ∙ append_assoc a b (c ++ (d ++ e)))

-- the lines of printed rows
printed-row : (s e a : ℕ) (table : Contents) (w : Widths) (row : Row) → w.state ≡ s → w.event ≡ e → w.action ≡ a → row_line table w row ≡ row_text s e a (row_named table row) ++ 10 ∷ []
unfolding row_line cell_text row_named
printed-row s e a table w row s_is e_is a_is =
    rw (s_is, e_is, a_is) (nest (codes "  ") (padded s (cell_text table State row)) (padded e (cell_text table Event row)) (padded a (cell_text table Action row)) (cell_text table Next row) (10 ∷ []))

printed-header : (s e a : ℕ) (w : Widths) → w.state ≡ s → w.event ≡ e → w.action ≡ a → header_line w ≡ line_with s e a (codes "State") (codes "Event") (codes "Action") (codes "Next") ++ 10 ∷ []
unfolding header_line
printed-header s e a w s_is e_is a_is =
    let state = padded s (codes "State") in
    let event = padded e (codes "Event") in
    let action = padded a (codes "Action") in
    rw (s_is, e_is, a_is) (sym (append_assoc (((codes "  " ++ state) ++ event) ++ action) (codes "Next") (10 ∷ [])) ∙ nest (codes "  ") state event action (codes "Next") (10 ∷ []))

-- a line has no newline in it
plain-line : (text : List ℕ) → is_plain text ≡ true → All (λ b. (b == 10) ≡ false) text
plain-line [] plain = λ k d inside. absurd (omega arith)
plain-line (b ∷ bs) plain =
    let both = and-both (leb 32 b && leb b 126) (is_plain bs) plain in
    let low = (and-both (leb 32 b) (leb b 126) both.0).0 in
    let isnt : (b == 10) ≡ false = grind (arith, nat_tests) in
    All-cons (λ c. (c == 10) ≡ false) b bs isnt (plain-line bs both.1)

cut-line : (line rest : List ℕ) → is_plain line ≡ true → slice_split (λ b. b == 10) (line ++ 10 ∷ rest) ≡ line ∷ slice_split (λ b. b == 10) rest
cut-line line rest plain = slice_split_at (λ b. b == 10) line 10 rest (plain-line line plain) refl

lines-are : (s e a : ℕ) (table : Contents) (w : Widths) (number : ℕ) (rows : List Row) → w.state ≡ s → w.event ≡ e → w.action ≡ a → ArePrintable s e a (map (row_named table) rows) → numbered_from number (slice_split (λ b. b == 10) (flat_map (row_line table w) rows)) ≡ body s e a number (map (row_named table) rows)
lines-are s e a table w number [] s_is e_is a_is all = refl
lines-are s e a table w number (row ∷ rows) s_is e_is a_is all =
    let named = row_named table row in
    let plain = line-plain s e a named.state (event_text named) (actions_text named.actions) named.next all.0.fits in
    let rest = flat_map (row_line table w) rows in
    let whole : flat_map (row_line table w) (row ∷ rows) ≡ row_text s e a named ++ 10 ∷ rest = rw (printed-row s e a table w row s_is e_is a_is) (append_assoc (row_text s e a named) (10 ∷ []) rest) in
    ap (λ (text : List ℕ). numbered_from number (slice_split (λ b. b == 10) text)) whole
    ∙ rw (cut-line (row_text s e a named) rest plain, lines-are s e a table w (number + 1) rows s_is e_is a_is all.1) refl

-- the header is a line like those of rows
heading-fits : (s e a : ℕ) → 5 < s → 5 < e → 6 < a → Fits s e a (codes "State") (codes "Event") (codes "Action") (codes "Next")
unfolding is_name
heading-fits s e a state event action = record {
  state_cell = name-cell (codes "State") refl;
  event_cell = name-cell (codes "Event") refl;
  action_cell = name-cell (codes "Action") refl;
  next_cell = name-cell (codes "Next") refl;
  state_fits = omega (arith, state);
  event_fits = omega (arith, event);
  action_fits = omega (arith, action);
}

-- a column is as wide as what stands first, and as each cell
fold-from : (from : ℕ) (numbers : List ℕ) → from ≤ fold max from numbers
fold-from from [] = omega arith
fold-from from (n ∷ numbers) =
    let rest = fold-from (max from n) numbers in
    omega (arith, rest)

fold-each : (from : ℕ) (numbers : List ℕ) → All (λ n. n ≤ fold max from numbers) numbers
fold-each from [] = λ k d inside. absurd (omega arith)
fold-each from (n ∷ numbers) =
    let here = fold-from (max from n) numbers in
    let first : n ≤ fold max (max from n) numbers = omega (arith, here) in
    All-cons (λ m. m ≤ fold max (max from n) numbers) n numbers first (fold-each (max from n) numbers)

width-heading : (table : Contents) (column : Column) → length (heading column) + 2 ≤ width table column
unfolding width
width-heading table column = fold-from (room (heading column)) (map (λ (row : Row). room (cell_text table column row)) table.rows)

width-each : (table : Contents) (column : Column) → All (λ (row : Row). length (cell_text table column row) + 2 ≤ width table column) table.rows
unfolding width
width-each table column = λ k d inside.
    let all = fold-each (room (heading column)) (map (λ (row : Row). room (cell_text table column row)) table.rows) in
    let at = all k (room (cell_text table column d)) (rw (length-map table.rows (λ (row : Row). room (cell_text table column row))) inside) in
    rw (get_or-map (λ (row : Row). room (cell_text table column row)) table.rows k d (room (cell_text table column d)) inside) at at

row-fits : (table : Contents) (row : Row) → IsWellNamed (row_named table row) → IsRowOf table row → length (cell_text table State row) + 2 ≤ width table State → length (cell_text table Event row) + 2 ≤ width table Event → length (cell_text table Action row) + 2 ≤ width table Action → IsPrintable (width table State) (width table Event) (width table Action) (row_named table row)
unfolding cell_text row_named
row-fits table row well is state event action = record {
  well = well;
  guards = rw (length-map row.guards (name_at table.guards)) is.few_guards;
  actions = rw (length-map row.actions (name_at table.actions)) is.few_actions;
  fits = record {
    state_cell = name-cell (name_at table.states row.state) well.state;
    event_cell = event-cell (name_at table.kinds row.kind) (map (name_at table.guards) row.guards) well.kind well.guards;
    action_cell = actions-cell (map (name_at table.actions) row.actions) well.actions;
    next_cell = name-cell (name_at table.states row.next) well.next;
    state_fits = omega (arith, state);
    event_fits = omega (arith, event);
    action_fits = omega (arith, action);
  };
}

all-fit : (table : Contents) (rows : List Row) → All (λ (row : Row). IsPrintable (width table State) (width table Event) (width table Action) (row_named table row)) rows → ArePrintable (width table State) (width table Event) (width table Action) (map (row_named table) rows)
all-fit table [] all = tt
all-fit table (row ∷ rows) all =
    let fits = λ (r : Row). IsPrintable (width table State) (width table Event) (width table Action) (row_named table r) in
    (All-head fits row rows all, all-fit table rows (All-tail fits row rows all))

table-fits : (table : Contents) → IsNumberedTable table → ArePrintable (width table State) (width table Event) (width table Action) (map (row_named table) table.rows)
table-fits table is =
    all-fit table table.rows (λ k d inside.
    let well = is.well_named k (row_named table d) (rw (length-map table.rows (row_named table)) inside) in
    let here = rw (get_or-map (row_named table) table.rows k d (row_named table d) inside) at well in
    row-fits table (get_or table.rows k d) here (is.within.each_row k d inside) (width-each table State k d inside) (width-each table Event k d inside) (width-each table Action k d inside))

table-room : (table : Contents) → IsNumberedTable table → has_room (names_of (map (row_named table) table.rows)) ≡ true
table-room table is =
    rw (← is.by_appearance) (fits-to (table_names table) (record { states = is.within.few_states; kinds = is.within.few_kinds; guards = is.within.few_guards; actions = is.within.few_actions }))

same-table : (table : Contents) (text : List ℕ) → IsNumberedTable table → rows_of text ≡ map (row_named table) table.rows → ◌≡◌ {A = Contents} (record (table_of text) { lines = table.lines }) table
unfolding table_of table_with
same-table table text is rows_are =
    let back = numbers-back table is in
    rw (rows_are, ← is.by_appearance, back) refl

-- the text that is printed of a table is read as that table
pub read-back : (table : Contents) → IsNumberedTable table → length (printed table) ≤ 1048576 → IsReadAs table (printed table)
unfolding printed
read-back table is within =
    let s = width table State in
    let e = width table Event in
    let a = width table Action in
    let w = widths_of table in
    let wide_s = width-heading table State in
    let wide_e = width-heading table Event in
    let wide_a = width-heading table Action in
    let s_min : 5 < s = omega (arith, wide_s) in
    let e_min : 5 < e = omega (arith, wide_e) in
    let a_min : 6 < a = omega (arith, wide_a) in
    let rows = map (row_named table) table.rows in
    let head = line_with s e a (codes "State") (codes "Event") (codes "Action") (codes "Next") in
    let header : Line = record { number = 1; octets = head } in
    let all = table-fits table is in
    let fits = heading-fits s e a s_min e_min a_min in
    let plain = line-plain s e a (codes "State") (codes "Event") (codes "Action") (codes "Next") fits in
    let columns = header-columns s e a s_min e_min a_min in
    let left = flat_map (row_line table w) table.rows in
    let whole : header_line w ++ left ≡ head ++ 10 ∷ left = rw (printed-header s e a w refl refl refl) (append_assoc head (10 ∷ []) left) in
    let cut : lines (header_line w ++ left) ≡ header ∷ body s e a 2 rows = ap lines whole ∙ rw (cut-line head left plain, lines-are s e a table w 2 table.rows refl refl refl all) refl in
    let count = length-map table.rows (row_named table) in
    let some_row = is.within.some_row in
    let few_rows = is.within.few_rows in
    let nothing : List NamedRow = [] in
    let some : 0 < length nothing + length rows = omega (arith, count, some_row) in
    let few : length nothing + length rows ≤ 4096 = omega (arith, count, few_rows) in
    let none = no-fault s e a header 2 [] [] rows columns refl refl some few (table-room table is) all in
    let sound : head_fault (header ∷ body s e a 2 rows) ≡ None = rw (plain, header-is s e a s_min e_min a_min) none in
    let found : rows_of (header_line w ++ left) ≡ rows = rw (cut, columns, groups-are s e a 2 rows all) (spelled-are s e a 2 rows all) in
    record {
      sound = first_fault-within (header_line w ++ left) within ∙ rw cut sound;
      same = same-table table (header_line w ++ left) is found;
    }
