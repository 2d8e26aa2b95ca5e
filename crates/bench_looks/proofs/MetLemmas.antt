-- How many of the items that were told are met.
use Rattle.std.proofs.Common.{◌≡◌, ◌≢◌, ◌∙◌, ◌+◌, ℕ, List, [], ◌∷◌, ◌++◌, true, false, length, take, map, refl, ap}
use Rattle.std.proofs.Common.{sym, arith}
use Rattle.std.specs.Prelude.{◌&&◌, cond, filter, flat_map, nat_eq, option_to_list, slice_get, Bool, IfNone, IfSome}
use Rattle.std.specs.Prelude.{Option, Some, None}
use Rattle.std.specs.Bool.{Decides}
use Rattle.std.proofs.lemmas.Bool.{cond-true, cond-false, eq-eqb, eqb-true, false≢true}
use Rattle.std.proofs.lemmas.List.{append-nil, append_assoc, length-take-le, map-append, take_all}
use Rattle.std.proofs.lemmas.List.Elements.{filter-append}
use Rattle.std.proofs.lemmas.Option.{slice_get_within}
use Rattle.bench_item.specs.Keys.{Node, home}
use Rattle.bench_item.specs.declared.entry.Entry.{Entry}
use Rattle.bench_item.specs.declared.item.Item.{Item}
use Rattle.bench_item.specs.declared.item.Item.TheVariants.{ToMachine}
use Rattle.bench_item.specs.declared.item.MachineItem.{MachineItem}
use Rattle.bench_item.specs.declared.step.Step.{Step}
use Rattle.bench_item.specs.declared.step.Step.TheVariants.{Told}
use Rattle.bench_spec.specs.Items.{desk_posts}
use Rattle.bench_spec.specs.Merged.{is_item_for}
use Rattle.bench_looks.specs.Tallies.{AreMet, is_all, tells, told, told_by}
use Rattle.bench_looks.proofs.BeforeLemmas.{take-there}

get-behind : (xs ys : List Item) (d : Item) → slice_get (xs ++ d ∷ ys) (length xs) ≡ Some d
get-behind [] ys d = refl
get-behind (x ∷ xs) ys d = get-behind xs ys d

-- the next is dropped, or another one
met-more : (all ds xs : List Item) (n next : ℕ) (d : Item) → d ∷ [] ≡ xs → next ≡ n + 1
    → slice_get all n ≡ Some d → AreMet all ds (Some n) → AreMet all (ds ++ xs) (Some next)
met-more all ds xs n next d one is there m =
    let within = slice_get_within all n d there in (
      omega (arith, is, within),
      ap (λ ys. ds ++ ys) (sym one) ∙ ap (λ ys. ys ++ d ∷ []) m.1
          ∙ ap (λ o. take n all ++ option_to_list o) (sym there) ∙ sym (take-there all n)
          ∙ ap (λ k. take k all) (sym is),
    )

met-other : (all ds xs : List Item) (n : ℕ) (d : Item) → d ∷ [] ≡ xs → slice_get all n ≢ Some d
    → AreMet all ds (Some n) → AreMet all (ds ++ xs) None
met-other all ds xs n d one apart m = λ rest e.
    let long : length ds ≡ n = ap length m.1 ∙ length-take-le n all m.0 in
    let whole : ds ++ d ∷ rest ≡ all =
    sym (append_assoc ds (d ∷ []) rest) ∙ ap (λ ys. (ds ++ ys) ++ rest) one ∙ e in
    apart (ap (slice_get all) (sym long) ∙ ap (λ ys. slice_get ys (length ds)) (sym whole) ∙ get-behind ds rest d)

pub met-after : (all ds xs : List Item) (n : ℕ) (d : Item) (after : Option ℕ) → d ∷ [] ≡ xs
    → IfSome after (λ next. (next ≡ n + 1) × (slice_get all n ≡ Some d)) → IfNone after (slice_get all n ≢ Some d)
    → AreMet all ds (Some n) → AreMet all (ds ++ xs) after
met-after all ds xs n d None one some none m = met-other all ds xs n d one none m
met-after all ds xs n d (Some next) one some none m = met-more all ds xs n next d one some.0 some.1 m

-- all are met where what was dropped is all that was told
pub all-met : (all ds : List Item) (met : Option ℕ) → AreMet all ds met → Decides (is_all (length all) met) (ds ≡ all)
all-met all ds None m = (λ h. absurd (false≢true h), λ e. absurd (m [] (append-nil ds ∙ e)))
all-met all ds (Some n) m = (
  λ h.
      let full = eqb-true n (length all) h in
      m.1 ∙ take_all n all (omega (arith, full)),
  λ e.
      let long = sym (ap length m.1 ∙ length-take-le n all m.0) ∙ ap length e in
      eq-eqb n (length all) long,
)

-- what a desk told a shard is what it posted for machines there
told-by : (item : MachineItem) (p : Item → Bool) (a b : Bool) → p (ToMachine item) ≡ b
    → map (λ i. ToMachine i) (cond (a && b) (item ∷ []) []) ≡ filter p (cond a (ToMachine item ∷ []) [])
told-by item p true true is = sym (cond-true (p (ToMachine item)) (ToMachine item ∷ []) [] is)
told-by item p true false is = sym (cond-false (p (ToMachine item)) (ToMachine item ∷ []) [] is)
told-by item p false b is = refl

tells-are : (node : Node) (shard desk : ℕ) (step : Step)
    → map (λ i. ToMachine i) (tells node.shards shard desk step)
    ≡ filter (is_item_for node shard) (desk_posts desk step)
tells-are node shard desk (Told own key event) =
    told-by (told key event) (is_item_for node shard) (nat_eq own desk) (nat_eq (home node.shards key.name) shard) refl
tells-are node shard desk step = refl

pub told-are : (node : Node) (shard desk : ℕ) (es : List Entry)
    → map (λ i. ToMachine i) (told_by node.shards shard desk es)
    ≡ filter (is_item_for node shard) (flat_map (λ e. desk_posts desk e.step) es)
told-are node shard desk [] = refl
told-are node shard desk (e ∷ es) =
    map-append (λ (i : MachineItem). ToMachine i) (tells node.shards shard desk e.step)
    (told_by node.shards shard desk es)
    ∙ ap (λ xs. xs ++ map (λ (i : MachineItem). ToMachine i) (told_by node.shards shard desk es))
    (tells-are node shard desk e.step)
    ∙ ap (λ xs. filter (is_item_for node shard) (desk_posts desk e.step) ++ xs) (told-are node shard desk es)
    ∙ sym (filter-append (is_item_for node shard) (desk_posts desk e.step)
    (flat_map (λ (d : Entry). desk_posts desk d.step) es))
