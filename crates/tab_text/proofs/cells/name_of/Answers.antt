use Rattle.std.proofs.Common.{[]}
use Rattle.tab_text.proofs.cells.name_of.Goals as goal

pub returns : goal.returns
returns c = c.extend.ensures [] c.new-name.ensures
