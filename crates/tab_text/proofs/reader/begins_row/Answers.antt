use Rattle.std.proofs.Common.{rules}
use Rattle.tab_text.proofs.reader.begins_row.Goals as goal

pub returns-then-not-some_row : goal.returns-then-not-some_row
returns-then-not-some_row c = search rules
