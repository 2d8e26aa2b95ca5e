use Rattle.std.proofs.Common.{◌≡◌, ◌∙◌, ◌+◌, ◌++◌, [], ◌∷◌, List, ℕ, ap, append_assoc, get_or, subst, sym, take}
use Rattle.std.proofs.lemmas.List.{take_more}
use Rattle.base_dialog.specs.Lines.{IsCut}
use Rattle.base_dialog.proofs.lines.take_lines.Goals as goal

-- one octet more
pub octets-preserved : goal.octets-preserved
octets-preserved c =
    let i = c.octets.octet-index in
    let begun : List ℕ = c.args.begun.now.items in
    let piece : List ℕ = c.args.piece.now in
    let octet : ℕ = get_or piece i 0 in
    let more : (begun ++ take i piece) ++ octet ∷ [] ≡ begun ++ take (i + 1) piece =
    append_assoc begun (take i piece) (octet ∷ []) ∙ ap (λ (xs : List ℕ). begun ++ xs) (sym (take_more piece i 0 c.octets-test.true)) in
    subst (λ (xs : List ℕ). IsCut xs c.take_octet.new.lines.items c.take_octet.new.begun.items) more
    (c.in_ok-take_octet.ensures (begun ++ take i piece) c.octets.invariant)
