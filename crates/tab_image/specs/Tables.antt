-- Tables that have an image.
use Rattle.std.specs.Prelude.{◌<◌, length}
use Rattle.tab_text.specs.Contents.{Contents}
use Rattle.tab_text.specs.Rows.{IsNumberedTable}
use Rattle.tab_asm.specs.Assembled.{code_to, entry_count}

-- a table as texts spell them, whose code has fewer octets than the offset that stands for none
pub record HasImage (table : Contents) : Type 0 where
  pub numbered : IsNumberedTable table
  pub few_octets : length (code_to table (entry_count table)) < 4294967295
