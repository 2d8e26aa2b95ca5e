-- Of a desk that has other part nothing is in the log.
use Rattle.std.proofs.Common.{◌≡◌, ◌∙◌, ℕ, List, [], ◌∷◌, ◌++◌, true, false, length}
use Rattle.std.proofs.Common.{drop, map, refl, ap, sym}
use Rattle.std.proofs.Common.{arith, inl, inr}
use Rattle.std.specs.Prelude.{cond, filter, flat_map, nat_eq, option_to_list, Option}
use Rattle.std.specs.List.{list_all}
use Rattle.std.proofs.lemmas.Bool.{cases_Bool, cond-true, cond-false, eqb-false, ne_eqb}
use Rattle.std.proofs.lemmas.List.{drop_all}
use Rattle.bench_item.specs.declared.entry.Entry.{Entry}
use Rattle.bench_item.specs.declared.entry.Handled.{Handled}
use Rattle.bench_item.specs.declared.item.Item.{Item}
use Rattle.bench_item.specs.declared.source.Source.TheVariants.{Desk}
use Rattle.bench_item.specs.declared.step.Step.{Step}
use Rattle.bench_item.specs.declared.step.Step.TheVariants.{Told, Lift}
use Rattle.bench_spec.specs.Items.{desk_posts, dropped, hand, is_lift, lifted, outbox}
use Rattle.bench_spec.specs.Merged.{Did, OfDesk, Stamped, is_same_part, part_of}
use Rattle.bench_spec.specs.Settings.{Settings}
use Rattle.bench_gather.specs.Checks.{is_did}

record Nothing (desk : ℕ) (s : Step) (item : Option Item) : Type 0 where
  told : desk_posts desk s ≡ []
  lifted : cond (is_lift (Desk desk) s) (option_to_list item) [] ≡ []

nothing-by : (shards desk : ℕ) (s : Step) (item : Option Item) (handled : Option Handled)
    → is_same_part (OfDesk desk) (part_of shards (record { step = s; item = item; handled = handled })) ≡ false
    → Nothing desk s item
nothing-by shards desk (Told own key event) item handled other = record {
  told =
      cond-false (nat_eq own desk) _ [] (ne_eqb own desk (λ e. eqb-false desk own other (sym e)));
  lifted = refl;
}
nothing-by shards desk (Lift (Desk own)) item handled other = record {
  told = refl;
  lifted = cond-false (nat_eq desk own) (option_to_list item) [] other;
}
nothing-by shards desk s item handled other = record { told = refl; lifted = refl }

record None-of (desk : ℕ) (es : List Entry) : Type 0 where
  told : flat_map (λ e. desk_posts desk e.step) es ≡ []
  lifted : lifted es (Desk desk) ≡ []

none-of : (shards desk : ℕ) (xs : List Stamped)
    → filter (λ s. is_same_part (OfDesk desk) (part_of shards s.entry)) xs ≡ []
    → None-of desk (map (λ s. s.entry) xs)
none-of shards desk [] none = record { told = refl; lifted = refl }
none-of shards desk (x ∷ xs) none =
    let p = λ (s : Stamped). is_same_part (OfDesk desk) (part_of shards s.entry) in
    elim (cases_Bool (is_same_part (OfDesk desk) (part_of shards x.entry))) [
      | inl is ↦ absurd (let e = sym (cond-true (p x) (x ∷ filter p xs) (filter p xs) is) ∙ none in cc)
      | inr other ↦
          let rest = none-of shards desk xs (sym (cond-false (p x) (x ∷ filter p xs) (filter p xs) other) ∙ none) in
          let this = nothing-by shards desk x.entry.step x.entry.item x.entry.handled other in
          record {
            told = ap
                (λ ys. ys ++ flat_map (λ (e : Entry). desk_posts desk e.step)
                (map (λ (s : Stamped). s.entry) xs)) this.told
                ∙ rest.told;
            lifted = ap (λ ys. ys ++ lifted (map (λ (s : Stamped). s.entry) xs) (Desk desk)) this.lifted ∙ rest.lifted;
          }
    ]

drop-nil : {X : Type 0} (n : ℕ) (xs : List X) → xs ≡ [] → drop n xs ≡ []
drop-nil n xs is = drop_all n xs (let short = ap length is in omega (arith, short))

pub desk-none : (settings : Settings) (shards desk : ℕ) (xs : List Stamped)
    → filter (λ s. is_same_part (OfDesk desk) (part_of shards s.entry)) xs ≡ []
    → (outbox settings (map (λ s. s.entry) xs) (Desk desk) ≡ []) × (hand (map (λ s. s.entry) xs) (Desk desk) ≡ [])
desk-none settings shards desk xs none =
    let n = none-of shards desk xs none in
    let es = map (λ (s : Stamped). s.entry) xs in (
      drop-nil (length (lifted es (Desk desk))) (flat_map (λ (e : Entry). desk_posts desk e.step) es) n.told,
      drop-nil (length (dropped es (Desk desk))) (lifted es (Desk desk)) n.lifted,
    )

pub all-did : (xs : List Stamped) → true ≡ list_all is_did (map Did xs)
all-did [] = refl
all-did (x ∷ xs) = all-did xs
