use Rattle.std.proofs.Common.{◌≡◌, ◌++◌, ◌+◌, ◌*◌, All, take, length}
use Rattle.std.specs.List.{flat_map}
use Rattle.tab_asm.specs.Images.{offset_octets}
use Rattle.tab_load.specs.Faults.{format_of, width_of}
use Rattle.tab_load.specs.Loading.{IsOffset}
use Rattle.tab_load.proofs.body.read_entries.Given as goal

abbrev pub invariant-loop : goal.invariant-loop
invariant-loop l = record {
  many : length l.entries.items ≡ l.counter;
  fits : All (IsOffset l.format) l.entries.items;
  at : l.at ≡ l.begin + width_of l.format * l.counter;
  front : take l.at l.octets ≡ take l.begin l.octets ++ flat_map (offset_octets (format_of l.format)) l.entries.items;
}
