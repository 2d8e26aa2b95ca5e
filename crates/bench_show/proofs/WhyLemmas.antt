-- What guards say, row by row.
use Rattle.std.proofs.Common.{◌≡◌, ◌<◌, ◌+◌, ◌++◌, ℕ, List, [], Option, Some, None, refl, sym, ◌∙◌, ap, length, min, take, arith, zero-add}
use Rattle.std.specs.Prelude.{slice_get}
use Rattle.std.specs.List.{enumerate_from}
use Rattle.std.proofs.lemmas.List.{take_all, take_min}
use Rattle.std.proofs.lemmas.List.FromFn.{length-enumerate_from}
use Rattle.tab_law.specs.Books.{Laws}
use Rattle.tab_step.specs.declared.machine.Event.{Event}
use Rattle.tab_step.specs.declared.machine.MachineState.{MachineState}
use Rattle.tab_text.specs.Contents.{Contents}
use Rattle.tab_text.specs.declared.row.Row.{Row}
use Rattle.bench_show.specs.Why.{count_to, guards_text, rows_to, told_row}
use Rattle.bench_show.proofs.PlaceLemmas.{numbered_more}

-- of the first so many rows
pub told_rows : Contents → Laws → MachineState → Event → ℕ → List ℕ
told_rows table laws s e count = guards_text table laws s e (take count (enumerate_from 0 table.rows))

pub rows_none : (table : Contents) (laws : Laws) (s : MachineState) (e : Event) → told_rows table laws s e 0 ≡ []
unfolding told_rows guards_text
rows_none table laws s e = refl

pub rows_more : (table : Contents) (laws : Laws) (s : MachineState) (e : Event) (number : ℕ) (row : Row) → slice_get table.rows number ≡ Some row
    → told_rows table laws s e (number + 1) ≡ told_rows table laws s e number ++ told_row table laws s e (number, row)
unfolding told_rows guards_text
rows_more table laws s e number row at =
    numbered_more (told_row table laws s e) 0 table.rows number row at
    ∙ ap (λ (n : ℕ). told_rows table laws s e number ++ told_row table laws s e (n, row)) (zero-add number)

rows_are : (table : Contents) (taken : Option ℕ) → take (count_to taken (length table.rows)) (enumerate_from 0 table.rows) ≡ rows_to table taken
rows_are table None = take_all (length table.rows) (enumerate_from 0 table.rows) (omega (arith, length-enumerate_from 0 table.rows))
rows_are table (Some number) =
    ap (λ count. take (min (number + 1) count) (enumerate_from 0 table.rows)) (sym (length-enumerate_from 0 table.rows))
    ∙ take_min (number + 1) (enumerate_from 0 table.rows)

pub rows_all : (table : Contents) (laws : Laws) (s : MachineState) (e : Event) (taken : Option ℕ) (count : ℕ)
    → count ≡ count_to taken (length table.rows)
    → told_rows table laws s e count ≡ guards_text table laws s e (rows_to table taken)
unfolding told_rows
rows_all table laws s e taken count is =
    ap (λ (n : ℕ). guards_text table laws s e (take n (enumerate_from 0 table.rows))) is
    ∙ ap (guards_text table laws s e) (rows_are table taken)

pub within_rows : (taken : Option ℕ) (rows number end : ℕ) → end ≡ count_to taken rows → number < end → number < rows
within_rows None rows number end is below = rw is at below
within_rows (Some last) rows number end is below = omega arith
