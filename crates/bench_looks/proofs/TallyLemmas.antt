-- What entries say of a look, with more entries behind them.
use Rattle.std.proofs.Common.{◌≡◌, ◌∙◌, ◌+◌, ℕ, List, ◌++◌, Bool, length, ap, sym, subst}
use Rattle.std.specs.Prelude.{◌||◌, flat_map, Option, None}
use Rattle.std.specs.List.{list_any}
use Rattle.std.proofs.lemmas.List.{length-append}
use Rattle.std.proofs.lemmas.List.Concat.{flat_map-append}
use Rattle.std.proofs.lemmas.List.Folds.{list_any-append}
use Rattle.std.proofs.lemmas.List.Sums.{fold-append}
use Rattle.tab_step.specs.declared.machine.MachineState.{MachineState}
use Rattle.bench_item.specs.declared.entry.Entry.{Entry}
use Rattle.bench_item.specs.declared.item.Item.{Item}
use Rattle.bench_item.specs.declared.key.Key.{Key}
use Rattle.bench_item.specs.declared.source.Source.TheVariants.{Desk}
use Rattle.bench_spec.specs.Items.{dropped, worked}
use Rattle.bench_spec.specs.Machines.{moves_in, moves_of}
use Rattle.bench_looks.specs.Tallies.{AreMet, came, comes, drops, is_key, later, left_after, taken_key, taken_keys}
use Rattle.bench_looks.specs.Tallies.{works}

pub met-next : (told : List Item) (desk : ℕ) (es xs zs : List Entry) (met after : Option ℕ) → zs ≡ es ++ xs
    → ((ds : List Item) → AreMet told ds met → AreMet told (ds ++ flat_map (drops desk) xs) after)
    → AreMet told (dropped es (Desk desk)) met → AreMet told (dropped zs (Desk desk)) after
met-next told desk es xs zs met after e step m =
    subst (λ ds. AreMet told ds after)
    (sym (ap (λ ys. dropped ys (Desk desk)) e ∙ flat_map-append (drops desk) es xs))
    (step (dropped es (Desk desk)) m)

pub came-next : (shards shard desk : ℕ) (es xs zs : List Entry) (all more : List Bool) → zs ≡ es ++ xs
    → more ≡ all ++ came shards shard desk xs → all ≡ came shards shard desk es → more ≡ came shards shard desk zs
came-next shards shard desk es xs zs all more e step is =
    step ∙ ap (λ ys. ys ++ came shards shard desk xs) is
    ∙ sym (ap (came shards shard desk) e ∙ flat_map-append (comes shards shard desk) es xs)

pub worked-next : (shard : ℕ) (es xs zs : List Entry) (count more : ℕ) → zs ≡ es ++ xs
    → more ≡ length (flat_map (works shard) xs) → count ≡ length (worked es shard)
    → count + more ≡ length (worked zs shard)
worked-next shard es xs zs count more e step is =
    ap (λ n. n + more) is ∙ ap (λ n. length (worked es shard) + n) step
    ∙ sym (ap (λ ys. length (worked ys shard)) e ∙ ap length (flat_map-append (works shard) es xs)
    ∙ length-append (worked es shard) (worked xs shard))

pub left-next : (key : Key) (es xs zs : List Entry) (left after : Option MachineState) → zs ≡ es ++ xs
    → after ≡ left_after left (moves_of xs key) → left ≡ left_after None (moves_of es key)
    → after ≡ left_after None (moves_of zs key)
left-next key es xs zs left after e step is =
    step ∙ ap (λ o. left_after o (moves_of xs key)) is
    ∙ sym (ap (λ ys. left_after None (moves_of ys key)) e
    ∙ ap (left_after None) (flat_map-append (moves_in key) es xs)
    ∙ fold-append later None (moves_of es key) (moves_of xs key))

pub there-next : (key : Key) (es xs zs : List Entry) (there after : Bool) → zs ≡ es ++ xs
    → after ≡ (there || list_any (is_key key) (taken_keys xs)) → there ≡ list_any (is_key key) (taken_keys es)
    → after ≡ list_any (is_key key) (taken_keys zs)
there-next key es xs zs there after e step is =
    step ∙ ap (λ b. b || list_any (is_key key) (taken_keys xs)) is
    ∙ sym (ap (λ ys. list_any (is_key key) (taken_keys ys)) e
    ∙ ap (list_any (is_key key)) (flat_map-append taken_key es xs)
    ∙ list_any-append (is_key key) (taken_keys es) (taken_keys xs))
