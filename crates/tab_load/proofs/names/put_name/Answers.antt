use Rattle.std.proofs.Common.{arith, refl}
use Rattle.tab_load.proofs.NameLemmas.{names-more}
use Rattle.tab_load.proofs.names.put_name.Goals as goal

pub returns-clause-ok : goal.returns-clause-ok
returns-clause-ok g c =
    let before = c.requires.before in
    rw (c.in_ok-push.ensures.items, c.in_ok-push-2.ensures.items, c.in_ok-from_slice.ensures.copy)
    (names-more c.args.bound c.args.entries.now c.args.octets.now c.args.begin _ c.args.names.now.end _ c.args.names.now.names.items c.args.names.now.places.items c.in-Ok.name.now _ c.place_of-place.result before c.in-Ok.ensures.stands refl (omega (arith, c.in-Ok.ensures.whole)) (rw c.as_slice.ensures.value at c.in-Ok.ensures.fine) c.place_of-place.ensures)
