use Rattle.std.proofs.Common.{◌≡◌, ◌++◌, take}
use Rattle.std.specs.List.{flat_map}
use Rattle.log_text.specs.Books.{named}
use Rattle.log_text.specs.EntryLines.{entry_lines}
use Rattle.log_text.proofs.entries.put_entries.Given as goal

-- the entries so far are put
abbrev pub invariant-loop-entry : goal.invariant-loop-entry
invariant-loop-entry l = l.out.items ≡ l.initial.out.items ++ flat_map (entry_lines (named l.names)) (take l.entry-index l.entries)
