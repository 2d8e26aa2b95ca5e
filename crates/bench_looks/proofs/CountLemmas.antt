-- The counts of a look: what came to a shard, and what was worked there.
use Rattle.std.proofs.Common.{◌≡◌, ◌∙◌, ℕ, suc, List, [], ◌∷◌, ◌++◌, Bool, true, false, length, take, map, refl, ap}
use Rattle.std.proofs.Common.{sym}
use Rattle.std.specs.Prelude.{cond, filter, nat_eq, zip, Option, Some}
use Rattle.std.proofs.lemmas.List.{map-append}
use Rattle.bench_item.specs.Keys.{Node, home}
use Rattle.bench_item.specs.Steps.{is_same_source}
use Rattle.bench_item.specs.declared.entry.Entry.{Entry}
use Rattle.bench_item.specs.declared.entry.Handled.{Handled}
use Rattle.bench_item.specs.declared.item.Item.{Item}
use Rattle.bench_item.specs.declared.item.Item.TheVariants.{ToMachine}
use Rattle.bench_item.specs.declared.item.MachineItem.{MachineItem}
use Rattle.bench_item.specs.declared.source.Source.{Source}
use Rattle.bench_item.specs.declared.source.Source.TheVariants.{Desk}
use Rattle.bench_item.specs.declared.step.Step.{Step}
use Rattle.bench_item.specs.declared.step.Step.TheVariants.{Drop}
use Rattle.bench_spec.specs.Items.{worked}
use Rattle.bench_spec.specs.Merged.{arrivals, arrivals_in, handled_of}
use Rattle.bench_looks.specs.Tallies.{came, comes}

-- whether the desk dropped an item that came
abbrev is_own : ℕ → Source × MachineItem → Bool
is_own desk came = is_same_source (Desk desk) came.0

one-comes : (desk : ℕ) (source : Source) (item : MachineItem) (b : Bool)
    → cond b (is_same_source (Desk desk) source ∷ []) []
    ≡ map (is_own desk) (map (λ i. (source, i)) (cond b (item ∷ []) []))
one-comes desk source item true = refl
one-comes desk source item false = refl

comes-are : (node : Node) (shard desk : ℕ) (step : Step) (item : Option Item) (handled : Option Handled)
    → comes node.shards shard desk (record { step = step; item = item; handled = handled })
    ≡ map (is_own desk) (arrivals_in node shard (record { step = step; item = item; handled = handled }))
comes-are node shard desk (Drop source) (Some (ToMachine item)) handled =
    one-comes desk source item (nat_eq (home node.shards item.key.name) shard)
comes-are node shard desk step item handled = refl

came-are : (node : Node) (shard desk : ℕ) (es : List Entry)
    → came node.shards shard desk es ≡ map (is_own desk) (arrivals node es shard)
came-are node shard desk [] = refl
came-are node shard desk (e ∷ es) =
    ap (λ xs. xs ++ came node.shards shard desk es) (comes-are node shard desk e.step e.item e.handled)
    ∙ ap (λ xs. map (is_own desk) (arrivals_in node shard e) ++ xs) (came-are node shard desk es)
    ∙ sym (map-append (is_own desk) (arrivals_in node shard e) (arrivals node es shard))

-- of what came, the first, as many as were worked
count-more : {X Y : Type 0} (f : X → Y) (x : X) (xs : List X) (ys : List Bool) (b : Bool)
    → length (map f xs) ≡ length ys → length (map f (cond b (x ∷ xs) xs)) ≡ length (cond b (b ∷ ys) ys)
count-more f x xs ys true same = ap suc same
count-more f x xs ys false same = same

zip-count : (q : Source × MachineItem → Bool) (ws : List MachineItem) (items : List (Source × MachineItem))
    → length (map (λ p. p.0) (filter (λ p. q p.1) (zip ws items)))
    ≡ length (filter (λ own. own) (take (length ws) (map q items)))
zip-count q [] items = refl
zip-count q (w ∷ ws) [] = refl
zip-count q (w ∷ ws) (a ∷ items) =
    count-more (λ p. p.0) (w, a) (filter (λ p. q p.1) (zip ws items))
    (filter (λ own. own) (take (length ws) (map q items))) (q a) (zip-count q ws items)

pub handled-are : (node : Node) (es : List Entry) (shard desk : ℕ)
    → length (handled_of node es shard desk)
    ≡ length (filter (λ own. own) (take (length (worked es shard)) (came node.shards shard desk es)))
handled-are node es shard desk =
    zip-count (is_own desk) (worked es shard) (arrivals node es shard)
    ∙ ap (λ xs. length (filter (λ own. own) (take (length (worked es shard)) xs))) (sym (came-are node shard desk es))
