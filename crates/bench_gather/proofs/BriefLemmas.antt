-- What is looked at of entries without what became of their items.
use Rattle.std.proofs.Common.{◌≡◌, ◌∙◌, ℕ, List, [], ◌∷◌, ◌++◌, length, map, refl, ap}
use Rattle.std.specs.Prelude.{◌&&◌, cond, flat_map, None, Option, option_to_list}
use Rattle.std.specs.List.{list_all}
use Rattle.bench_item.specs.declared.entry.Entry.{Entry}
use Rattle.bench_item.specs.declared.source.Source.TheVariants.{Desk}
use Rattle.bench_log.specs.Moves.{entry_with}
use Rattle.bench_parts.specs.Found.{brief_of}
use Rattle.bench_parts.specs.Own.{is_of}
use Rattle.bench_parts.specs.declared.find.Brief.{Brief}
use Rattle.bench_spec.specs.Items.{desk_posts, is_drop_from, is_lift}
use Rattle.bench_gather.specs.Checks.{counts}

-- an entry of a step and an item
abbrev pub bare : Brief → Entry
bare b = entry_with b.step b.item None

-- whether each stands in its own part
bare-own : (shards part : ℕ) (es : List Entry)
    → list_all (is_of shards part) (map bare (map brief_of es)) ≡ list_all (is_of shards part) es
bare-own shards part [] = refl
bare-own shards part (e ∷ es) = ap (λ b. is_of shards part e && b) (bare-own shards part es)

pub own_brief : (shards part : ℕ) (es : List Entry) (o : Option Brief) → option_to_list o ≡ map brief_of es
    → list_all (is_of shards part) (map bare (option_to_list o)) ≡ list_all (is_of shards part) es
own_brief shards part es o is =
    ap (λ bs. list_all (is_of shards part) (map bare bs)) is ∙ bare-own shards part es

-- how many items a desk told, lifted and dropped
bare-told : (desk : ℕ) (es : List Entry)
    → flat_map (λ (e : Entry). desk_posts desk e.step) (map bare (map brief_of es))
    ≡ flat_map (λ (e : Entry). desk_posts desk e.step) es
bare-told desk [] = refl
bare-told desk (e ∷ es) = ap (λ xs. desk_posts desk e.step ++ xs) (bare-told desk es)

bare-lifted : (desk : ℕ) (es : List Entry)
    → flat_map (λ (e : Entry). cond (is_lift (Desk desk) e.step) (option_to_list e.item) []) (map bare (map brief_of es))
    ≡ flat_map (λ (e : Entry). cond (is_lift (Desk desk) e.step) (option_to_list e.item) []) es
bare-lifted desk [] = refl
bare-lifted desk (e ∷ es) =
    ap (λ xs. cond (is_lift (Desk desk) e.step) (option_to_list e.item) [] ++ xs) (bare-lifted desk es)

bare-dropped : (desk : ℕ) (es : List Entry)
    → flat_map (λ (e : Entry). cond (is_drop_from (Desk desk) e.step) (option_to_list e.item) [])
    (map bare (map brief_of es))
    ≡ flat_map (λ (e : Entry). cond (is_drop_from (Desk desk) e.step) (option_to_list e.item) []) es
bare-dropped desk [] = refl
bare-dropped desk (e ∷ es) =
    ap (λ xs. cond (is_drop_from (Desk desk) e.step) (option_to_list e.item) [] ++ xs) (bare-dropped desk es)

pub counts_brief : (desk : ℕ) (es : List Entry) (o : Option Brief) → option_to_list o ≡ map brief_of es
    → counts desk (map bare (option_to_list o)) ≡ counts desk es
counts_brief desk es o is =
    let told = ap length (bare-told desk es) in
    let lifted = ap length (bare-lifted desk es) in
    let dropped = ap length (bare-dropped desk es) in
    ap (λ bs. counts desk (map bare bs)) is
    ∙ ap (λ n. record { told = n; lifted = (counts desk (map bare (map brief_of es))).lifted; dropped = (counts desk (map bare (map brief_of es))).dropped }) told
    ∙ ap (λ n. record { told = (counts desk es).told; lifted = n; dropped = (counts desk (map bare (map brief_of es))).dropped }) lifted
    ∙ ap (λ n. record { told = (counts desk es).told; lifted = (counts desk es).lifted; dropped = n }) dropped
