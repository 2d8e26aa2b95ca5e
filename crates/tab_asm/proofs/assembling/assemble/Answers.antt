use Rattle.tab_asm.proofs.MeansLemmas.{image-means}
use Rattle.tab_asm.proofs.assembling.assemble.Goals as goal

pub returns-clause-means : goal.returns-clause-means
returns-clause-means c = image-means c.args.bound.now.table (rw c.table.ensures at c.rows-rows.ensures.numbered)
