use Rattle.dia_avp.specs.View.{seen}
use Rattle.dia_dict.specs.Dictionary.{known}
use Rattle.dia_tree.proofs.CanonicalRelation.{made_canonical}
use Rattle.dia_tree.proofs.canonical.canonical_avp.Goals as goal

pub returns-clause-canonical : goal.returns-clause-canonical
returns-clause-canonical c = made_canonical (known c.args.dictionary.now) 4 (seen c.args.avp.now) c.canonical_of.result c.octets_are_bytes.ensures c.canonical_of.ensures
