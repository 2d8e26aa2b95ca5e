use Rattle.std.proofs.Common.{◌≡◌, ◌≤◌, ◌<◌, ◌+◌, ◌-◌, ℕ, suc, false, drop, get_or, replicate, take, length, arith, subst}
use Rattle.std.specs.Prelude.{◌==◌}
use Rattle.std.proofs.lemmas.Bool.{ne_eqb}
use Rattle.std.proofs.lemmas.List.{drop_all}
use Rattle.tab_law.specs.declared.limits.TheConstants.{PLACES}
use Rattle.tab_kept.proofs.PlacesLemmas.{zeros-eight, zeros-more}
use Rattle.tab_kept.specs.Trimmed.{trimmed}
use Rattle.tab_kept.proofs.TrimmedLemmas.{trimmed-last}
use Rattle.tab_kept.proofs.places.used.Goals as goal

pub eights-init : goal.eights-init
eights-init c =
    let short : length c.args.places.now ≤ PLACES = omega (arith, c.told-places) in
    record { within = omega arith; zeros = drop_all PLACES c.args.places.now short }

pub eights-preserved : goal.eights-preserved
eights-preserved c =
    let behind : c.eights.count - 8 + 8 ≡ c.eights.count = omega (arith, c.eights-test.true) in
    let more : 8 + (PLACES - c.eights.count) ≡ PLACES - (c.eights.count - 8) = omega (arith, c.eights-test.true, c.eights.invariant.within) in
    let zeros : drop (c.eights.count - 8 + 8) c.args.places.now ≡ replicate (PLACES - c.eights.count) 0 = rw behind c.eights.invariant.zeros in
    record {
      within = omega (arith, c.eights.invariant.within);
      zeros = rw (← more) (zeros-eight c.args.places.now (c.eights.count - 8) (PLACES - c.eights.count) (c.are_eight_zeros.ensures.0 c.if-are_eight_zeros.true) zeros);
    }

pub zeros-init : goal.zeros-init
zeros-init c = record { within = c.eights.invariant.within; zeros = c.eights.invariant.zeros }

pub zeros-preserved : goal.zeros-preserved
zeros-preserved c =
    let within : c.zeros.count - 1 < length c.args.places.now = omega (arith, c.told-places, c.zeros.invariant.within, c.zeros-test.true) in
    let behind : c.zeros.count - 1 + 1 ≡ c.zeros.count = omega (arith, c.zeros-test.true) in
    let more : PLACES - c.zeros.count + 1 ≡ PLACES - (c.zeros.count - 1) = omega (arith, c.zeros-test.true, c.zeros.invariant.within) in
    let zeros : drop (c.zeros.count - 1 + 1) c.args.places.now ≡ replicate (PLACES - c.zeros.count) 0 = rw behind c.zeros.invariant.zeros in
    record {
      within = omega (arith, c.zeros.invariant.within);
      zeros = rw (← more) (zeros-more c.args.places.now (c.zeros.count - 1) (PLACES - c.zeros.count) within c.if-places-count-eq0.true zeros);
    }

pub returns-else-places-count-eq0-clause-least : goal.returns-else-places-count-eq0-clause-least
returns-else-places-count-eq0-clause-least c =
    let one : suc (c.zeros.count - 1) ≡ c.zeros.count = omega (arith, c.zeros-test.true) in
    let within : c.zeros.count - 1 < length c.args.places.now = omega (arith, c.told-places, c.zeros.invariant.within, c.zeros-test.true) in
    let zeros : drop (suc (c.zeros.count - 1)) c.args.places.now ≡ replicate (PLACES - c.zeros.count) 0 = rw one c.zeros.invariant.zeros in
    let last : (get_or c.args.places.now (c.zeros.count - 1) 0 == 0) ≡ false = ne_eqb _ 0 c.if-places-count-eq0.false in
    subst (λ (n : ℕ). trimmed c.args.places.now ≡ take n c.args.places.now) one (trimmed-last c.args.places.now (c.zeros.count - 1) (PLACES - c.zeros.count) within zeros last)
