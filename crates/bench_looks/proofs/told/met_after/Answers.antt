use Rattle.std.proofs.Common.{◌≡◌, ◌∙◌, [], ◌∷◌, ap, map, option_copied, option_to_list, subst, sym}
use Rattle.std.specs.Prelude.{flat_map}
use Rattle.std.proofs.lemmas.List.{append-nil}
use Rattle.bench_item.specs.declared.item.Item.TheVariants.{ToMachine}
use Rattle.bench_item.specs.declared.item.MachineItem.{MachineItem}
use Rattle.bench_looks.specs.Tallies.{AreMet, drops}
use Rattle.bench_looks.proofs.MetLemmas.{met-after}
use Rattle.bench_looks.proofs.told.met_after.Goals as goal

pub returns-in-Some-Some : goal.returns-in-Some-Some
returns-in-Some-Some c = λ ds m.
    let all = map (λ (i : MachineItem). ToMachine i) c.args.told.now in
    let xs = flat_map (drops c.args.desk) (option_to_list c.args.entry.now) in
    let one : c.in-Some-Some.item.now ∷ [] ≡ xs =
    ap (λ o. option_to_list (option_copied o)) (sym c.in-Some-Some.is-1) ∙ c.dropped_in.ensures
    ∙ sym (append-nil (drops c.args.desk c.in-Some.entry))
    ∙ ap (λ o. flat_map (drops c.args.desk) (option_to_list o)) (sym c.in-Some.is) in
    met-after all ds xs c.in-Some-Some.met c.in-Some-Some.item.now c.meets_at.result one c.meets_at.ensures.some
    c.meets_at.ensures.none (subst (AreMet all ds) c.in-Some-Some.is-0 m)
