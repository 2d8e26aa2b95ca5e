-- A printed table is read back as it was.
use Rattle.std.specs.Prelude.{ℕ, ◌≡◌, List, None}
use Rattle.tab_text.specs.Contents.{Contents}
use Rattle.tab_text.specs.Rows.{table_of}
use Rattle.tab_text.specs.Faults.{first_fault}

-- a text has no fault, and is read as this table: the same names and rows; the lines on which rows begin are the text's
-- own
pub record IsReadAs (table : Contents) (text : List ℕ) : Type 0 where
  pub sound : first_fault text ≡ None
  pub same : record (table_of text) { lines = table.lines } ≡ table
