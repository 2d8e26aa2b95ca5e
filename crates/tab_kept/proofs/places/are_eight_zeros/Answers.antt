use Rattle.std.proofs.Common.{◌∙◌, ◌≤◌, ◌+◌, length, sym, arith}
use Rattle.std.proofs.lemmas.Bool.{eqb-true, eq-eqb}
use Rattle.tab_kept.proofs.PlacesLemmas.{eight-taken, none-joined, joined-none}
use Rattle.tab_kept.proofs.places.are_eight_zeros.Goals as goal

pub returns : goal.returns
returns c =
    let within : c.args.from + 8 ≤ length c.args.places.now = omega (arith, c.told-places, c.requires) in
    let taken = eight-taken c.args.places.now c.args.from within in
    (λ yes. taken ∙ none-joined _ _ _ _ _ _ _ _ (eqb-true _ _ yes), λ zeros. eq-eqb _ _ (joined-none _ _ _ _ _ _ _ _ (sym taken ∙ zeros)))
