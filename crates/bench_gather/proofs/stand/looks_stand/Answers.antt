use Rattle.std.proofs.Common.{◌≡◌, ◌∙◌, ◌+◌, ap, arith, length, sym, take}
use Rattle.std.specs.List.{list_all}
use Rattle.std.specs.Prelude.{min}
use Rattle.std.proofs.lemmas.List.{take-map, take_min}
use Rattle.std.proofs.lemmas.List.Folds.{list_all-map}
use Rattle.bench_parts.specs.Views.{kept_in}
use Rattle.bench_parts.specs.declared.view.Lent.{Lent}
use Rattle.bench_gather.specs.Checks.{is_did}
use Rattle.bench_gather.proofs.stand.looks_stand.Goals as goal

pub returns : goal.returns
returns c =
    let parts = c.args.parts.now in
    let n = c.args.shards + 2 in
    let count : c.loop-place.place ≡ min n (length parts) = omega arith in
    c.loop-place.invariant
    ∙ ap (λ k. list_all (λ (part : Lent). list_all is_did (kept_in part)) (take k parts)) count
    ∙ ap (list_all (λ (part : Lent). list_all is_did (kept_in part))) (take_min n parts)
    ∙ sym (list_all-map (list_all is_did) kept_in (take n parts))
    ∙ ap (list_all (list_all is_did)) (sym (take-map kept_in n parts))
