use Rattle.std.proofs.Common.{◌≡◌, ◌+◌, ◌*◌, ◌≤◌, ◌++◌, length, take}
use Rattle.std.specs.List.{filter, enumerate_from}
use Rattle.tab_asm.specs.Formats.{format_2, code_of}
use Rattle.tab_asm.specs.Assembled.{is_in, rows_instructions}
use Rattle.tab_asm.proofs.code.put_entry.Given as goal

abbrev pub invariant-loop-number : goal.invariant-loop-number
invariant-loop-number l = record {
  code : l.code.items
      ≡ l.fn.code.items ++ code_of format_2 (rows_instructions (length l.fn.code.items) (filter (λ numbered. is_in l.table l.entry numbered.1) (enumerate_from 0 (take l.number l.table.rows))));
  few : length l.code.items ≤ length l.fn.code.items + 69 * l.number;
}
