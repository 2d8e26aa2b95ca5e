-- What is looked at says what it means.
use Rattle.std.proofs.Common.{◌≡◌, ◌∙◌, ◌≤◌, ℕ, List, [], ◌∷◌, Bool, true, false}
use Rattle.std.proofs.Common.{length, drop, refl, ap, sym, subst, arith, inl, inr}
use Rattle.std.specs.Prelude.{flat_map, fold, nat_eq, nat_le}
use Rattle.std.specs.Prelude.{Option, Some, None}
use Rattle.std.proofs.lemmas.Bool.{and_parts, and_from, cases_eq, cond-true, cond-false, eq-eqb, false≢true}
use Rattle.std.proofs.lemmas.Bool.{le-leb, leb-true, ne_eqb}
use Rattle.std.proofs.lemmas.List.{drop_all, length-drop}
use Rattle.tab_step.specs.declared.machine.Event.{Event}
use Rattle.bench_item.specs.declared.entry.Entry.{Entry}
use Rattle.bench_item.specs.declared.key.Key.{Key}
use Rattle.bench_item.specs.declared.source.Source.TheVariants.{Desk}
use Rattle.bench_item.specs.declared.step.Step.{Step}
use Rattle.bench_item.specs.declared.step.Step.TheVariants.{Told, Lift}
use Rattle.bench_spec.specs.Items.{desk_posts, dropped, hand, lifted, outbox}
use Rattle.bench_spec.specs.Merged.{AreTells}
use Rattle.bench_spec.specs.Settings.{Settings}
use Rattle.bench_gather.specs.Checks.{are_tells, counts, ends, is_done, is_ended}
use Rattle.bench_gather.specs.Checks.{next_tell, opens, steps_of}

-- steps are a desk's tells where each that is told is lifted next
abbrev told_steps : ℕ → List (Key × Event) → List Step
told_steps desk told = flat_map (λ t. Told desk t.0 t.1 ∷ Lift (Desk desk) ∷ []) told

record Tells (desk : ℕ) (steps : List Step) : Type 0 where
  told : List (Key × Event)
  is : steps ≡ told_steps desk told

stuck : (desk : ℕ) (steps : List Step) → is_ended (fold (next_tell desk) None steps) ≡ true → ⊥
stuck desk [] h = false≢true h
stuck desk (s ∷ ss) h = stuck desk ss h

tells-open : (desk : ℕ) (steps : List Step) (o : Option Bool) → (o ≡ Some true → ⊥) → (o ≡ Some false → ⊥)
    → is_ended (fold (next_tell desk) o steps) ≡ true → ⊥
tells-open desk steps None t f h = stuck desk steps h
tells-open desk steps (Some true) t f h = t refl
tells-open desk steps (Some false) t f h = f refl

mutual_lift : (desk : ℕ) (s : Step) (ss : List Step)
    → is_ended (fold (next_tell desk) (ends desk s) ss) ≡ true
    → (s ≡ Lift (Desk desk)) × (is_ended (fold (next_tell desk) (Some false) ss) ≡ true)
mutual_lift desk (Lift (Desk own)) ss h =
    elim (cases_eq own desk) [
      | inl e ↦ (
        ap (λ d. Lift (Desk d)) e,
        subst (λ o. is_ended (fold (next_tell desk) o ss) ≡ true)
            (cond-true (nat_eq own desk) (Some false) None (eq-eqb own desk e)) h,
      )
      | inr apart ↦
          absurd (stuck desk ss
          (subst (λ o. is_ended (fold (next_tell desk) o ss) ≡ true)
          (cond-false (nat_eq own desk) (Some false) None (ne_eqb own desk apart)) h))
    ]
mutual_lift desk s ss h = absurd (stuck desk ss h)

mutual_told : (desk : ℕ) (s : Step) (ss : List Step)
    → is_ended (fold (next_tell desk) (opens desk s) ss) ≡ true
    → (key : Key) × (event : Event) × (s ≡ Told desk key event) ×
    (is_ended (fold (next_tell desk) (Some true) ss) ≡ true)
mutual_told desk (Told own key event) ss h =
    elim (cases_eq own desk) [
      | inl e ↦ (
        key,
        event,
        ap (λ d. Told d key event) e,
        subst (λ o. is_ended (fold (next_tell desk) o ss) ≡ true)
            (cond-true (nat_eq own desk) (Some true) None (eq-eqb own desk e)) h,
      )
      | inr apart ↦
          absurd (stuck desk ss
          (subst (λ o. is_ended (fold (next_tell desk) o ss) ≡ true)
          (cond-false (nat_eq own desk) (Some true) None (ne_eqb own desk apart)) h))
    ]
mutual_told desk s ss h = absurd (stuck desk ss h)

tells : (desk : ℕ) (steps : List Step) → are_tells desk steps ≡ true → Tells desk steps
tells desk [] h = record { told = []; is = refl }
tells desk (s ∷ []) h = absurd (let t = mutual_told desk s [] h in false≢true t.3)
tells desk (s ∷ l ∷ ss) h =
    let t = mutual_told desk s (l ∷ ss) h in
    let e = mutual_lift desk l ss t.3 in
    let rest = tells desk ss e.1 in
    record {
      told = (t.0, t.1) ∷ rest.told;
      is = ap (λ x. x ∷ l ∷ ss) t.2 ∙ ap (λ x. Told desk t.0 t.1 ∷ x ∷ ss) e.0
          ∙ ap (λ xs. Told desk t.0 t.1 ∷ Lift (Desk desk) ∷ xs) rest.is;
    }

told-are : (desk : ℕ) (told : List (Key × Event)) → are_tells desk (told_steps desk told) ≡ true
told-are desk [] = refl
told-are desk (t ∷ ts) =
    let same = eq-eqb desk desk refl in
    ap (λ o. is_ended (fold (next_tell desk) o (Lift (Desk desk) ∷ told_steps desk ts)))
    (cond-true (nat_eq desk desk) (Some true) None same)
    ∙ ap (λ o. is_ended (fold (next_tell desk) o (told_steps desk ts)))
    (cond-true (nat_eq desk desk) (Some false) None same)
    ∙ told-are desk ts

pub are_tells-are : (desk : ℕ) (es : List Entry) → are_tells desk (steps_of es) ≡ true → AreTells desk es
are_tells-are desk es h = let t = tells desk (steps_of es) h in record { told = t.told; steps = t.is }

pub are_tells-from : (desk : ℕ) (es : List Entry) → AreTells desk es → are_tells desk (steps_of es) ≡ true
are_tells-from desk es t = subst (λ ss. are_tells desk ss ≡ true) (sym t.steps) (told-are desk t.told)

-- nothing that was told is on its way where all was lifted and dropped
pub is_done-done : (settings : Settings) (desk : ℕ) (es : List Entry) → is_done desk es ≡ true
    → (outbox settings es (Desk desk) ≡ []) × (hand es (Desk desk) ≡ [])
is_done-done settings desk es h =
    let c = counts desk es in
    let both = and_parts (nat_le c.told c.lifted) (nat_le c.lifted c.dropped) h in (
      drop_all (length (lifted es (Desk desk))) (flat_map (λ (e : Entry). desk_posts desk e.step) es)
          (leb-true c.told c.lifted both.0),
      drop_all (length (dropped es (Desk desk))) (lifted es (Desk desk)) (leb-true c.lifted c.dropped both.1),
    )

none-left : {X : Type 0} (n : ℕ) (xs : List X) → drop n xs ≡ [] → length xs ≤ n
none-left n xs none = let short = sym (length-drop n xs) ∙ ap length none in omega (arith, short)

pub is_done-from : (settings : Settings) (desk : ℕ) (es : List Entry) → outbox settings es (Desk desk) ≡ []
    → hand es (Desk desk) ≡ [] → is_done desk es ≡ true
is_done-from settings desk es out in_hand =
    let c = counts desk es in
    and_from (nat_le c.told c.lifted) (nat_le c.lifted c.dropped)
    (le-leb c.told c.lifted
    (none-left (length (lifted es (Desk desk))) (flat_map (λ (e : Entry). desk_posts desk e.step) es) out))
    (le-leb c.lifted c.dropped (none-left (length (dropped es (Desk desk))) (lifted es (Desk desk)) in_hand))
