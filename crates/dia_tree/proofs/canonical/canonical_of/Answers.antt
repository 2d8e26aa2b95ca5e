use Rattle.std.proofs.Common.{refl}
use Rattle.dia_avp.specs.View.{seen}
use Rattle.dia_dict.specs.Dictionary.{known}
use Rattle.dia_tree.proofs.CanonicalLaws.{short_octets}
use Rattle.dia_tree.proofs.CanonicalLemmas.{group_below}
use Rattle.dia_tree.proofs.canonical.canonical_of.Goals as goal

pub group_octets-requires : goal.group_octets-requires
group_octets-requires c = short_octets (seen c.args.avp.now) c.requires

pub returns : goal.returns
returns c =
    let below = c.if-not-is_open.ensures.open refl in
    group_below (known c.args.dictionary.now) c.args.room (seen c.args.avp.now) c.in_ok-group_octets.field-0 below.0 below.1 c.in_ok-group_octets.ensures
