use Rattle.std.proofs.Common.{[], refl}
use Rattle.tab_text.proofs.cells.RowCell.joined.Goals as goal

pub loop-line-init : goal.loop-line-init
loop-line-init c = (c.args.self.rest.now, c.extend.ensures [] c.new-name.ensures, refl)
