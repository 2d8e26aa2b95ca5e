use Rattle.std.proofs.Common.{◌≡◌, ◌++◌, ◌+◌, ◌-◌, ◌<◌, ◌∷◌, ℕ, List, take, ap, ◌∙◌, arith}
use Rattle.std.proofs.lemmas.List.{length-set}
use Rattle.tab_law.specs.declared.limits.TheConstants.{PLACES}
use Rattle.tab_kept.specs.Coded.{decoded}
use Rattle.tab_kept.proofs.CodedLemmas.{decoded-next}
use Rattle.tab_kept.proofs.PlacesLemmas.{placed-more}
use Rattle.tab_kept.proofs.places.decode.Goals as goal

pub loop-place-preserved : goal.loop-place-preserved
loop-place-preserved c =
    let l = c.loop-place in
    let within : c.loop-place.place < PLACES = omega (arith, c.loop-place-test.true, c.requires) in
    let next : decoded (c.args.count - c.loop-place.place) c.loop-place.rest.now ≡ c.next-number.result.0 ∷ decoded (c.args.count - (c.loop-place.place + 1)) c.next-number.result.1.now =
    rw (c.next-number.ensures.first, c.next-number.ensures.behind) (decoded-next c.args.count c.loop-place.place c.loop-place.rest.now c.loop-place-test.true) in
    let split = c.loop-place.invariant.split ∙ ap (λ (xs : List ℕ). take c.loop-place.place c.loop-place.places ++ xs) next in
    let more = placed-more (decoded c.args.count c.args.octets.now) c.loop-place.places c.loop-place.place c.next-number.result.0 (decoded (c.args.count - (c.loop-place.place + 1)) c.next-number.result.1.now) c.loop-place.invariant.whole within split c.loop-place.invariant.zeros in
    record {
      whole = length-set c.loop-place.places c.loop-place.place c.next-number.result.0 ∙ c.loop-place.invariant.whole;
      split = more.0;
      zeros = more.1;
    }
