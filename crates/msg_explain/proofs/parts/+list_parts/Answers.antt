use Rattle.std.proofs.Common.{◌≡◌, ◌<◌, ◌-◌, ◌+◌, ◌++◌, ◌∷◌, [], map, length, false, refl, sym, ◌∙◌, append_assoc, arith}
use Rattle.std.proofs.lemmas.Bool.Decides.{nat_tests}
use Rattle.dia_avp.specs.View.{seen}
use Rattle.dia_dict.specs.Dictionary.{known, definition_of}
use Rattle.dia_tree.specs.Kind.{is_grouped}
use Rattle.msg_explain.specs.Parts.{seen_part, parts}
use Rattle.msg_explain.proofs.PartLemmas.{Listed-start, Listed-end, Listed-broken, Listed-more, first, inner-shut, inner-open, put_one}
use Rattle.msg_explain.proofs.parts.+list_parts.Goals.{else-room-gt0-via-then-room-gt0+else-is_grouped, else-room-gt0-via-else-room-gt0}
use Rattle.msg_explain.proofs.parts.+list_parts.Goals as goal

pub loop-rest-init : goal.loop-rest-init
loop-rest-init t c = Listed-start (known c.args.dictionary.now) c.args.room c.args.end c.args.octets.now _

pub returns-in_default : goal.returns-in_default
returns-in_default t c =
    let d = known c.args.dictionary.now in
    let rest = c.loop-rest.rest.now in
    let put = put_one c.args.room c.args.end rest _ _ _ c.in_ok-push.ensures.items (rw c.saturating_sub-place.ensures refl) in
    let some : 0 < length rest = grind (arith, nat_tests) in
    Listed-broken d c.args.room c.args.end c.args.octets.now _ _ _ rest c.in_default.field-0 some (sym c.in_default.ensures.is) put c.loop-rest.invariant

pub loop-rest-preserved-in_ok-list_parts : goal.loop-rest-preserved-in_ok-list_parts
loop-rest-preserved-in_ok-list_parts t c =
    let d = known c.args.dictionary.now in
    let rest = c.loop-rest.rest.now in
    let a = seen c.in-Ok.avp in
    let lower = c.args.room - 1 in
    let inner = parts d lower (c.saturating_sub-place.result + c.length_at.result) c.in-Ok.avp.octets.now in
    let put = put_one c.args.room c.args.end rest _ _ _ c.in_ok-push.ensures.items (rw c.saturating_sub-place.ensures refl) in
    let more : map seen_part c.list_parts.new.list.items ≡ map seen_part c.loop-rest.list.items ++ first c.args.room c.args.end rest ∷ inner =
    rw (c.in_ok-list_parts.ensures, put, append_assoc) refl in
    Listed-more d c.args.room c.args.end c.args.octets.now _ _ _ rest a c.in-Ok.after.now inner c.in-Ok.ensures.shorter (sym c.in-Ok.ensures.is)
    (rw (c.saturating_sub-place.ensures, c.length_at.ensures.is) (inner-open d c.args.room lower _ rest a c.in-Ok.after.now (omega arith) (sym c.is_grouped.ensures ∙ c.if-is_grouped.true)))
    more c.loop-rest.invariant

pub loop-rest-preserved : goal.loop-rest-preserved
loop-rest-preserved t c =
    let d = known c.args.dictionary.now in
    let rest = c.loop-rest.rest.now in
    let a = seen c.in-Ok.avp in
    let put = put_one c.args.room c.args.end rest _ _ _ c.in_ok-push.ensures.items (rw c.saturating_sub-place.ensures refl) in
    let shut : 0 < c.args.room → is_grouped (definition_of d a.code a.vendor) ≡ false =
    elim c.else-room-gt0.branch [
      | else-room-gt0-via-then-room-gt0+else-is_grouped w ↦ λ _. sym w.is_grouped.ensures ∙ w.if-is_grouped.false
      | else-room-gt0-via-else-room-gt0 w ↦ λ some. absurd (omega arith)
    ] in
    Listed-more d c.args.room c.args.end c.args.octets.now _ _ _ rest a c.in-Ok.after.now [] c.in-Ok.ensures.shorter (sym c.in-Ok.ensures.is)
    (inner-shut d c.args.room _ rest a c.in-Ok.after.now shut) put c.loop-rest.invariant

pub returns : goal.returns
returns t c =
    let none : length c.loop-rest.rest.now ≡ 0 = grind (arith, nat_tests) in
    Listed-end (known c.args.dictionary.now) c.args.room c.args.end c.args.octets.now _ _ c.loop-rest.rest.now none c.loop-rest.invariant
