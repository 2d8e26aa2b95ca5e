use Rattle.std.proofs.Common.{◌&&◌, refl}
use Rattle.dia_avp.specs.Reading.{avps_in}
use Rattle.dia_avp.proofs.Bytes.{IsBytes-fits}
use Rattle.dia_dict.specs.Dictionary.{known}
use Rattle.dia_tree.specs.Faults.{has_event_type}
use Rattle.dia_tree.proofs.RelationLaws.{found_is, found_are, more_are}
use Rattle.dia_tree.proofs.check.survey.Goals as goal

pub returns-clause-fault : goal.returns-clause-fault
returns-clause-fault g c =
    found_is (known c.args.dictionary.now) c.args.credit c.args.octets.now (c.args.credit && has_event_type (avps_in c.args.octets.now).0) c.listed.result (IsBytes-fits _ c.type_inv.octets) refl c.listed.ensures.fault

pub returns-clause-avps : goal.returns-clause-avps
returns-clause-avps g c = found_are c.args.octets.now _ c.listed.result (IsBytes-fits _ c.type_inv.octets) c.listed.ensures.avps

pub returns-clause-room : goal.returns-clause-room
returns-clause-room g c = more_are c.args.octets.now _ c.listed.result (IsBytes-fits _ c.type_inv.octets) c.listed.ensures.room
