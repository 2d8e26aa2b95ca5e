use Rattle.std.proofs.Common.{Some, None, [], ◌∷◌, refl, sym, subst}
use Rattle.dia_dict.specs.Dictionary.{known}
use Rattle.dia_command.specs.Field.{AreTypedOf}
use Rattle.dia_msg.specs.Sorting.{seen_all}
use Rattle.dia_msg.specs.Source.{entry_at}
use Rattle.dia_msg.proofs.SourceLemmas.{taken_seen, taken_sound}
use Rattle.dia_msg.proofs.source.Source.perhaps.Goals as goal

pub value-requires : goal.value-requires
value-requires g c =
    let fs = c.args.self.now.format.now in
    let list = seen_all c.args.self.now.avps.now in (
      (entry_at fs c.args.place).code,
      c.requires.kind,
      taken_sound c.args.self.now.dictionary.now fs list c.args.self.now.sorted.now c.args.place (Some c.in-Some.avp) c.in-Some.avp c.requires.ready c.requires.held c.in-Some.ensures refl,
    )

pub returns-in-Some : goal.returns-in-Some
returns-in-Some g c = λ enough.
    let fs = c.args.self.now.format.now in
    let list = seen_all c.args.self.now.avps.now in
    let value = c.value.ensures enough in (
      value.0,
      subst (AreTypedOf (g.T.FromAvp.is_value (known c.args.self.now.dictionary.now)) (c.value.result ∷ []))
          (sym (taken_seen c.args.self.now.dictionary.now fs list c.args.self.now.sorted.now c.args.place (Some c.in-Some.avp) c.requires.ready c.requires.held c.in-Some.ensures)) (value.1, tt),
    )

pub returns-in-None : goal.returns-in-None
returns-in-None g c = λ enough.
    let fs = c.args.self.now.format.now in
    let list = seen_all c.args.self.now.avps.now in (
      enough,
      subst (AreTypedOf (g.T.FromAvp.is_value (known c.args.self.now.dictionary.now)) [])
          (sym (taken_seen c.args.self.now.dictionary.now fs list c.args.self.now.sorted.now c.args.place None c.requires.ready c.requires.held c.in-None.ensures)) tt,
    )
