use Rattle.std.proofs.Common.{[], ◌∷◌, Option, sym, subst, ap, ◌∙◌}
use Rattle.std.specs.Option.{option_map, option_to_list}
use Rattle.dia_avp.specs.declared.avp.AvpView.{AvpView}
use Rattle.dia_avp.specs.View.{seen}
use Rattle.dia_dict.specs.Dictionary.{known}
use Rattle.dia_command.specs.Field.{AreTypedOf}
use Rattle.dia_msg.specs.Sorting.{seen_all}
use Rattle.dia_msg.specs.Source.{entry_at}
use Rattle.dia_msg.proofs.SourceLemmas.{first_there, taken_seen, taken_sound}
use Rattle.dia_msg.proofs.source.Source.one.Goals as goal

pub unwrap-avp-requires : goal.unwrap-avp-requires
unwrap-avp-requires g c =
    first_there c.args.self.now.dictionary.now c.args.self.now.format.now (seen_all c.args.self.now.avps.now) c.args.self.now.sorted.now c.args.place c.first.result c.requires.ready c.requires.held c.first.ensures

pub value-requires : goal.value-requires
value-requires g c =
    let fs = c.args.self.now.format.now in
    let list = seen_all c.args.self.now.avps.now in (
      (entry_at fs c.args.place).code,
      c.requires.kind,
      taken_sound c.args.self.now.dictionary.now fs list c.args.self.now.sorted.now c.args.place c.first.result c.unwrap-avp.result c.requires.ready (c.requires.held.0, c.requires.held.2) c.first.ensures c.unwrap-avp.ensures,
    )

pub returns : goal.returns
returns g c = λ enough.
    let fs = c.args.self.now.format.now in
    let list = seen_all c.args.self.now.avps.now in
    let value = c.value.ensures enough in (
      value.0,
      subst (AreTypedOf (g.T.FromAvp.is_value (known c.args.self.now.dictionary.now)) (c.value.result ∷ []))
          (sym (taken_seen c.args.self.now.dictionary.now fs list c.args.self.now.sorted.now c.args.place c.first.result c.requires.ready (c.requires.held.0, c.requires.held.2) c.first.ensures
          ∙ ap (λ (o : Option AvpView). option_to_list (option_map seen o)) c.unwrap-avp.ensures)) (value.1, tt),
    )
