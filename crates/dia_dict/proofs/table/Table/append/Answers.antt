use Rattle.dia_dict.proofs.TwiceLemmas.{NoneTwice-push}
use Rattle.dia_dict.proofs.table.Table.append.Goals as goal

pub invariant_of-self-2 : goal.invariant_of-self-2
invariant_of-self-2 c = rw c.in_ok-push.ensures.items (NoneTwice-push c.self.inside.definitions.items c.args.definition (rw c.self.view_is c.requires) c.self.invariant)
