use Rattle.std.proofs.Common.{sym}
use Rattle.dia_avp.specs.View.{seen}
use Rattle.dia_dict.specs.Dictionary.{known}
use Rattle.dia_tree.specs.Canonical.{canonical}
use Rattle.dia_msg.specs.Sorting.{seen_all}
use Rattle.dia_msg.proofs.SourceLemmas.{short_at, seen_at, seen_past, placed_there, placed_past}
use Rattle.dia_msg.proofs.source.Source.left.Goals as goal
use Rattle.dia_msg.proofs.source.Source.left.Goals.{in-Some+in_ok-avp+in_ok-push, in_default}

pub canonical_avp-requires : goal.canonical_avp-requires
canonical_avp-requires c =
    let avps = c.args.self.now.avps.now in
    let at = c.in-Some.ensures.lookup in
    short_at (seen_all avps) c.from.result (seen c.in-Some.avp.now) (sym (seen_at avps c.from.result c.in-Some.avp.now at.3.0 at.1)) c.requires.ready.short

pub loop-place-preserved : goal.loop-place-preserved
loop-place-preserved c =
    let f = canonical (known c.args.self.now.dictionary.now) 4 in
    let avps = c.args.self.now.avps.now in
    let places = c.args.self.now.sorted.now.rest.items in
    let i = c.loop-place.place-index in
    let lt = rw c.as_slice-place-items.ensures.value at c.loop-place-test.true in
    elim c.match-get.branch [
      | in-Some+in_ok-avp+in_ok-push w ↦
          let at = w.in-Some.ensures.lookup in
          rw (w.rest-is, w.in_ok-push.ensures.ok, w.in_ok-avp.ensures.is)
          (placed_there f (seen_all avps) places i _ (seen w.in-Some.avp.now) c.loop-place.rest lt (rw (c.from.ensures, c.as_slice-place-items.ensures.value) at (seen_at avps c.from.result w.in-Some.avp.now at.3.0 at.1)) c.loop-place.invariant)
      | in_default w ↦
          rw w.rest-is (placed_past f (seen_all avps) places i _ c.loop-place.rest lt (rw (c.from.ensures, c.as_slice-place-items.ensures.value) at (seen_past avps c.from.result w.in_default.ensures.lookup.3)) c.loop-place.invariant)
    ]
