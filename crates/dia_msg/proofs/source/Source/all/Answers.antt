use Rattle.std.proofs.Common.{[], sym, subst}
use Rattle.dia_dict.specs.Dictionary.{known}
use Rattle.dia_command.specs.Field.{AreTypedOf}
use Rattle.dia_msg.specs.Sorting.{seen_all}
use Rattle.dia_msg.proofs.SourceLemmas.{none_taken}
use Rattle.dia_msg.proofs.source.Source.all.Goals as goal

-- where the entry has no first AVP, it takes none
pub returns-in-None : goal.returns-in-None
returns-in-None g c = λ enough.
    let fs = c.args.self.now.format.now in
    let list = seen_all c.args.self.now.avps.now in
    let none = none_taken c.args.self.now.dictionary.now fs list c.args.self.now.sorted.now c.args.place c.requires.ready c.requires.held c.in-None.ensures in
    (enough, rw (c.new.ensures) (subst (AreTypedOf (g.T.FromAvp.is_value (known c.args.self.now.dictionary.now)) []) (sym none) tt))
