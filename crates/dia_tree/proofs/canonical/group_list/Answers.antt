use Rattle.dia_avp.proofs.Bytes.{IsBytes-fits}
use Rattle.dia_dict.specs.Dictionary.{known}
use Rattle.dia_tree.proofs.CanonicalRelation.{listed_canonical}
use Rattle.dia_tree.proofs.canonical.group_list.Goals as goal

pub returns-clause-canonical : goal.returns-clause-canonical
returns-clause-canonical c = listed_canonical (known c.args.dictionary.now) 3 c.args.octets.now c.list_of.result (IsBytes-fits _ c.type_inv.octets) c.list_of.ensures
