use Rattle.dia_dict.specs.Dictionary.{known}
use Rattle.dia_msg.specs.Sorting.{seen_all}
use Rattle.dia_msg.proofs.SourceLemmas.{one_there}
use Rattle.dia_msg.proofs.source.Source.number.Goals as goal

pub unwrap-requires : goal.unwrap-requires
unwrap-requires g c =
    one_there (g.T.FromNumber.is_value (known c.args.self.now.dictionary.now)) c.args.self.now.format.now (seen_all c.args.self.now.avps.now) c.args.place c.perhaps_number.result c.requires.ready.complete c.requires.held c.perhaps_number.ensures
