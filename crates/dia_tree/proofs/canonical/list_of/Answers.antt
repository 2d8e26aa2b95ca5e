use Rattle.dia_avp.specs.View.{seen}
use Rattle.dia_tree.proofs.CanonicalLemmas.{short_first}
use Rattle.dia_tree.proofs.canonical.list_of.Goals as goal

pub canonical_of-requires : goal.canonical_of-requires
canonical_of-requires c = short_first c.loop-avp.rest.now (seen c.in-Ok.avp) c.in-Ok.after.now c.in-Ok.ensures.avp
