use Rattle.base_list.specs.Named.{place_of}
use Rattle.base_list.proofs.NamedLemmas.{entry_of-place}
use Rattle.tab_step.specs.Moves.{name_at}
use Rattle.tab_step.proofs.BindLemmas.{place-within}
use Rattle.tab_image.proofs.EntryLemmas.{read-place}
use Rattle.tab_image.proofs.walk.says.Goals as goal

pub ask-requires : goal.ask-requires
ask-requires g c =
    let laws = c.args.registry.now.book in
    let program = c.args.program.now in
    let at = read-place (λ name. place_of name laws.guards) program.image.guards program.guard_places c.names.result.now.guards.places.items c.args.guard c.index-place.result.now c.requires.loaded.guards c.names.ensures.guards c.index-place.ensures c.requires.named in
    place-within laws.guards (name_at program.image.guards c.args.guard) c.index-place.result.now at

pub returns : goal.returns
returns g c =
    let laws = c.args.registry.now.book in
    let program = c.args.program.now in
    let at = read-place (λ name. place_of name laws.guards) program.image.guards program.guard_places c.names.result.now.guards.places.items c.args.guard c.index-place.result.now c.requires.loaded.guards c.names.ensures.guards c.index-place.ensures c.requires.named in
    rw (entry_of-place (name_at program.image.guards c.args.guard) laws.guards c.index-place.result.now at) c.ask.ensures
