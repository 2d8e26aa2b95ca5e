use Rattle.std.proofs.Common.{◌≡◌, ◌*◌, ◌≤◌, map, length}
use Rattle.std.specs.List.{flat_map, range_with_len}
use Rattle.tab_asm.specs.Formats.{format_2}
use Rattle.tab_asm.specs.Images.{offset_octets}
use Rattle.tab_asm.specs.Assembled.{code_to, entry_offset}
use Rattle.tab_asm.proofs.assembling.code_entries.Given as goal

abbrev pub invariant-loop-entry : goal.invariant-loop-entry
invariant-loop-entry l = record {
  code : l.code.items ≡ code_to l.table l.entry;
  entries : l.entries.items ≡ flat_map (offset_octets format_2) (map (entry_offset l.table) (range_with_len 0 l.entry));
  few : length l.code.items ≤ 282625 * l.entry;
}
