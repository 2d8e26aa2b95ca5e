use Rattle.std.proofs.Common.{◌≡◌, ℕ, refl, ap, ◌∙◌, arith, vec_capacity, ◌++◌}
use Rattle.dia_avp.specs.declared.avp.Avp.{Avp}
use Rattle.dia_avp.specs.Encoding.{encoded}
use Rattle.dia_avp.specs.View.{seen}
use Rattle.dia_avp.proofs.Bytes.{IsBytes-fits}
use Rattle.dia_dict.specs.Dictionary.{known}
use Rattle.dia_tree.specs.Canonical.{canonical}
use Rattle.dia_tree.proofs.CanonicalLemmas.{short_first, short_inside, reencoded_len, Written-more, Written-room, Written-short, group_below}
use Rattle.dia_tree.proofs.canonical.+group_octets.Goals as goal

pub loop-avp-init : goal.loop-avp-init
loop-avp-init t c = record {
  all = rw c.in_ok-out.ensures.items refl;
  fits = omega (arith, c.in_ok-out.ensures.capacity, c.div_ceil.ensures, reencoded_len (known c.args.dictionary.now) c.args.room c.args.octets.now (IsBytes-fits _ c.type_inv.octets));
}

pub group_octets-requires : goal.group_octets-requires
group_octets-requires t c =
    let lt = (c.if-is_open.ensures.open refl).0 in
    (omega arith, short_inside c.loop-avp.rest.now (seen c.in-Ok.avp) c.in-Ok.after.now c.in-Ok.ensures.avp)

-- the AVP that is put is the canonical one
group_is : (t : ℕ) (c : goal.After-out-then-is_open-1 t) → seen c.with_octets.result ≡ canonical (known c.args.dictionary.now) c.args.room (seen c.in-Ok.avp)
group_is t c =
    let below = c.if-is_open.ensures.open refl in
    c.with_octets.ensures ∙ group_below (known c.args.dictionary.now) c.args.room (seen c.in-Ok.avp) c.as_slice.result.now below.0 below.1 (c.as_slice.ensures ∙ c.in_ok-inner.ensures)

pub put_avp-requires-clause-short : goal.put_avp-requires-clause-short
put_avp-requires-clause-short t c =
    let d = known c.args.dictionary.now in
    rw (group_is t c) (Written-short d c.args.room c.args.octets.now c.loop-avp.out.items (vec_capacity c.loop-avp.out) c.loop-avp.rest.now (seen c.in-Ok.avp) c.in-Ok.after.now c.loop-avp.invariant c.in-Ok.ensures.parts (IsBytes-fits _ c.type_inv.octets) c.requires)

pub put_avp-requires-clause-room : goal.put_avp-requires-clause-room
put_avp-requires-clause-room t c =
    let d = known c.args.dictionary.now in
    rw (group_is t c) (omega (arith, Written-room d c.args.room c.args.octets.now c.loop-avp.out.items (vec_capacity c.loop-avp.out) c.loop-avp.rest.now (seen c.in-Ok.avp) c.in-Ok.after.now c.loop-avp.invariant c.in-Ok.ensures.parts))

pub put_avp-requires-else-is_open-clause-short : goal.put_avp-requires-else-is_open-clause-short
put_avp-requires-else-is_open-clause-short t c = short_first c.loop-avp.rest.now (seen c.in-Ok.avp) c.in-Ok.after.now c.in-Ok.ensures.avp

pub loop-avp-preserved-in_ok-inner : goal.loop-avp-preserved-in_ok-inner
loop-avp-preserved-in_ok-inner t c =
    let d = known c.args.dictionary.now in
    let below = c.if-is_open.ensures.open refl in
    let is : seen c.with_octets.result ≡ canonical d c.args.room (seen c.in-Ok.avp) =
    c.with_octets.ensures ∙ group_below d c.args.room (seen c.in-Ok.avp) c.as_slice.result.now below.0 below.1 (c.as_slice.ensures ∙ c.in_ok-inner.ensures) in
    Written-more d c.args.room c.args.octets.now c.loop-avp.out.items (vec_capacity c.loop-avp.out) c.loop-avp.rest.now (seen c.in-Ok.avp) c.in-Ok.after.now c.put_avp.new.out.items (vec_capacity c.put_avp.new.out) c.loop-avp.invariant c.in-Ok.ensures.parts
    (c.put_avp.ensures.items ∙ ap (λ (a : Avp). c.loop-avp.out.items ++ encoded a) is) c.put_avp.ensures.room

pub loop-avp-preserved : goal.loop-avp-preserved
loop-avp-preserved t c =
    let d = known c.args.dictionary.now in
    Written-more d c.args.room c.args.octets.now c.loop-avp.out.items (vec_capacity c.loop-avp.out) c.loop-avp.rest.now (seen c.in-Ok.avp) c.in-Ok.after.now c.put_avp-else-is_open.new.out.items (vec_capacity c.put_avp-else-is_open.new.out) c.loop-avp.invariant c.in-Ok.ensures.parts
    (rw (c.if-is_open.ensures.shut refl) c.put_avp-else-is_open.ensures.items) c.put_avp-else-is_open.ensures.room
