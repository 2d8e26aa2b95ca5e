-- What is looked at entry by entry, one place of an order more.
use Rattle.std.proofs.Common.{◌≡◌, ◌≢◌, ◌∙◌, ◌+◌, ℕ, List, [], ◌∷◌, ◌++◌, length, take}
use Rattle.std.proofs.Common.{ap, sym}
use Rattle.std.specs.Prelude.{cond, flat_map, fold, nat_eq, option_to_list}
use Rattle.std.proofs.lemmas.Bool.{cond-true, cond-false, eq-eqb, ne_eqb}
use Rattle.std.proofs.lemmas.List.{append-nil, length-append, map-append}
use Rattle.std.proofs.lemmas.List.Concat.{flat_map-append}
use Rattle.std.proofs.lemmas.List.Elements.{filter-append}
use Rattle.std.proofs.lemmas.List.Sums.{fold-append}
use Rattle.bench_item.specs.declared.entry.Entry.{Entry}
use Rattle.bench_item.specs.declared.source.Source.TheVariants.{Desk}
use Rattle.bench_item.specs.declared.step.Step.{Step}
use Rattle.bench_merge.specs.Order.{of_part}
use Rattle.bench_merge.specs.declared.merging.Placed.{Placed}
use Rattle.bench_spec.specs.Items.{desk_posts, is_drop_from, is_lift}
use Rattle.bench_spec.specs.Merged.{Kept}
use Rattle.bench_gather.specs.Checks.{counts, desk_steps, steps_at, steps_of}
use Rattle.bench_gather.specs.Ordered.{entries_at, entries_by}

-- one place more of what an order has of a part, and of the whole order
of_part-next : (q : ℕ) (order : List Placed) (k : ℕ) (t : Placed) → take (k + 1) order ≡ take k order ++ t ∷ []
    → of_part q (take (k + 1) order) ≡ of_part q (take k order) ++ of_part q (t ∷ [])
of_part-next q order k t more =
    ap (of_part q) more ∙ filter-append (λ (u : Placed). nat_eq u.part q) (take k order) (t ∷ [])

entries-next : (parts : List (List Kept)) (order : List Placed) (k : ℕ) (t : Placed)
    → take (k + 1) order ≡ take k order ++ t ∷ []
    → entries_by parts (take (k + 1) order) ≡ entries_by parts (take k order) ++ entries_at parts t
entries-next parts order k t more =
    ap (entries_by parts) more ∙ flat_map-append (entries_at parts) (take k order) (t ∷ [])
    ∙ ap (λ xs. entries_by parts (take k order) ++ xs) (append-nil (entries_at parts t))

pub desk_steps-next : (parts : List (List Kept)) (q : ℕ) (order : List Placed) (k : ℕ) (t : Placed)
    → take (k + 1) order ≡ take k order ++ t ∷ []
    → desk_steps parts q (take (k + 1) order) ≡ desk_steps parts q (take k order) ++ steps_at parts q t
desk_steps-next parts q order k t more =
    ap (λ os. steps_of (entries_by parts os)) (of_part-next q order k t more)
    ∙ ap steps_of (flat_map-append (entries_at parts) (of_part q (take k order)) (of_part q (t ∷ [])))
    ∙ map-append (λ (e : Entry). e.step) (entries_by parts (of_part q (take k order)))
    (entries_by parts (of_part q (t ∷ [])))

pub log_steps-next : (parts : List (List Kept)) (order : List Placed) (k : ℕ) (t : Placed)
    → take (k + 1) order ≡ take k order ++ t ∷ []
    → steps_of (entries_by parts (take (k + 1) order))
    ≡ steps_of (entries_by parts (take k order)) ++ steps_of (entries_at parts t)
log_steps-next parts order k t more =
    ap steps_of (entries-next parts order k t more)
    ∙ map-append (λ (e : Entry). e.step) (entries_by parts (take k order)) (entries_at parts t)

-- so a fold goes on
pub fold-next : {S : Type 0} (f : S → Step → S) (start : S) (xs ys zs : List Step) (before after : S) → zs ≡ xs ++ ys
    → before ≡ fold f start xs → after ≡ fold f before ys → after ≡ fold f start zs
fold-next f start xs ys zs before after e is so =
    so ∙ ap (λ s. fold f s ys) is ∙ sym (fold-append f start xs ys) ∙ ap (fold f start) (sym e)

-- what stands at a place where that is one of the part: nothing of another, and else the entry, if there is one
pub steps_at-there : (parts : List (List Kept)) (q : ℕ) (t : Placed) → t.part ≢ q → steps_at parts q t ≡ []
steps_at-there parts q t apart =
    ap (λ os. steps_of (entries_by parts os)) (cond-false (nat_eq t.part q) (t ∷ []) [] (ne_eqb t.part q apart))

pub steps_at-here : (parts : List (List Kept)) (q : ℕ) (t : Placed) → t.part ≡ q
    → steps_at parts q t ≡ steps_of (entries_at parts t)
steps_at-here parts q t e =
    ap (λ os. steps_of (entries_by parts os)) (cond-true (nat_eq t.part q) (t ∷ []) [] (eq-eqb t.part q e))
    ∙ ap steps_of (append-nil (entries_at parts t))

-- how many items a desk told, lifted and dropped
pub record Counted (desk : ℕ) (xs ys zs : List Entry) : Type 0 where
  pub told : (counts desk zs).told ≡ (counts desk xs).told + (counts desk ys).told
  pub lifted : (counts desk zs).lifted ≡ (counts desk xs).lifted + (counts desk ys).lifted
  pub dropped : (counts desk zs).dropped ≡ (counts desk xs).dropped + (counts desk ys).dropped

count-append : {X : Type 0} (f : Entry → List X) (xs ys zs : List Entry) → zs ≡ xs ++ ys
    → length (flat_map f zs) ≡ length (flat_map f xs) + length (flat_map f ys)
count-append f xs ys zs e =
    ap (λ es. length (flat_map f es)) e ∙ ap length (flat_map-append f xs ys)
    ∙ length-append (flat_map f xs) (flat_map f ys)

pub counts-next : (desk : ℕ) (parts : List (List Kept)) (order : List Placed) (k : ℕ) (t : Placed)
    → take (k + 1) order ≡ take k order ++ t ∷ []
    → Counted desk (entries_by parts (take k order)) (entries_at parts t) (entries_by parts (take (k + 1) order))
counts-next desk parts order k t more =
    let e = entries-next parts order k t more in
    let xs = entries_by parts (take k order) in
    let ys = entries_at parts t in
    let zs = entries_by parts (take (k + 1) order) in
    record {
      told = count-append (λ (d : Entry). desk_posts desk d.step) xs ys zs e;
      lifted = count-append (λ (d : Entry). cond (is_lift (Desk desk) d.step) (option_to_list d.item) []) xs ys zs e;
      dropped =
          count-append (λ (d : Entry). cond (is_drop_from (Desk desk) d.step) (option_to_list d.item) []) xs ys zs e;
    }
