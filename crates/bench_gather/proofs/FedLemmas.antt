-- The steps of a log that are fed, and those of a list.
use Rattle.std.proofs.Common.{◌≡◌, ◌∙◌, ◌+◌, ◌<◌, ◌≤◌, ℕ, zero, suc, List, [], ◌∷◌, true}
use Rattle.std.proofs.Common.{length, drop, get_or, refl, ap, sym, subst, arith, inl, inr}
use Rattle.std.specs.Prelude.{filter, fold, nat_eq, slice_get, Option, Some, None}
use Rattle.std.specs.Str.{bytes_eq}
use Rattle.std.proofs.lemmas.Bool.{and_parts, and_from, cases_Bool, cond-true, cond-false, eq-eqb, eqb-true}
use Rattle.std.proofs.lemmas.Bool.{false≢true}
use Rattle.std.proofs.lemmas.List.{drop_all, drop_more, length-drop}
use Rattle.std.proofs.lemmas.Slice.Eq.{bytes_eq-Decides}
use Rattle.bench_item.specs.declared.source.Source.TheVariants.{Line}
use Rattle.bench_item.specs.declared.step.Step.{Step}
use Rattle.bench_item.specs.declared.step.Step.TheVariants.{Joined, Dialled, Came, Lost, Lift, Drop}
use Rattle.bench_spec.specs.Merged.{is_fed}
use Rattle.bench_gather.specs.Checks.{are_fed, is_met, is_same_fed, meets, meets_at}

same-fed : (a b : Step) → is_same_fed a b ≡ true → a ≡ b
same-fed Joined Joined h = refl
same-fed (Dialled a) (Dialled b) h = ap (λ l. Dialled l) (eqb-true a b h)
same-fed (Came a one) (Came b other) h =
    let both = and_parts (nat_eq a b) (bytes_eq one other) h in
    ap (λ l. Came l one) (eqb-true a b both.0) ∙ ap (λ p. Came b p) ((bytes_eq-Decides one other).0 both.1)
same-fed (Lost a) (Lost b) h = ap (λ l. Lost l) (eqb-true a b h)
same-fed (Lift (Line a)) (Lift (Line b)) h = ap (λ l. Lift (Line l)) (eqb-true a b h)
same-fed (Drop (Line a)) (Drop (Line b)) h = ap (λ l. Drop (Line l)) (eqb-true a b h)
same-fed a b h = absurd (false≢true h)

fed-itself : (s : Step) → is_fed s ≡ true → is_same_fed s s ≡ true
fed-itself Joined f = refl
fed-itself (Dialled a) f = eq-eqb a a refl
fed-itself (Came a one) f = and_from (nat_eq a a) (bytes_eq one one) (eq-eqb a a refl)
    ((bytes_eq-Decides one one).1 refl)
fed-itself (Lost a) f = eq-eqb a a refl
fed-itself (Lift (Line a)) f = eq-eqb a a refl
fed-itself (Drop (Line a)) f = eq-eqb a a refl
fed-itself s f = absurd (false≢true f)

within : {X : Type 0} (xs : List X) (n : ℕ) (x : X) → slice_get xs n ≡ Some x → n < length xs
within [] n x is = absurd cc
within (y ∷ ys) zero x is = omega arith
within (y ∷ ys) (suc n) x is = let l = within ys n x is in omega (arith, l)

here : {X : Type 0} (xs : List X) (n : ℕ) (x : X) → slice_get xs n ≡ Some x → get_or xs n x ≡ x
here [] n x is = absurd cc
here (y ∷ ys) zero x is = let same : y ≡ x = cc in same
here (y ∷ ys) (suc n) x is = here ys n x is

past : {X : Type 0} (xs : List X) (n : ℕ) → slice_get xs n ≡ None → length xs ≤ n
past [] n is = omega arith
past (y ∷ ys) zero is = absurd cc
past (y ∷ ys) (suc n) is = let l = past ys n is in omega (arith, l)

split : {X : Type 0} (xs : List X) (n : ℕ) (x : X) → slice_get xs n ≡ Some x → drop n xs ≡ x ∷ drop (n + 1) xs
split xs n x is = drop_more xs n x (within xs n x is) ∙ ap (λ y. y ∷ drop (n + 1) xs) (here xs n x is)

unmet : (fed : List Step) (count : ℕ) (steps : List Step) → is_met count (fold (meets fed) None steps) ≡ true → ⊥
unmet fed count [] h = false≢true h
unmet fed count (s ∷ ss) h = unmet fed count ss h

-- a step that is fed: it is the next of the list
record Next (fed : List Step) (n : ℕ) (s : Step) (ss : List Step) : Type 0 where
  is : drop n fed ≡ s ∷ drop (n + 1) fed
  below : n < length fed
  rest : is_met (length fed) (fold (meets fed) (Some (n + 1)) ss) ≡ true

next-by : (fed : List Step) (n : ℕ) (s : Step) (ss : List Step) (o : Option Step) → slice_get fed n ≡ o
    → is_met (length fed) (fold (meets fed) (meets_at o n s) ss) ≡ true → Next fed n s ss
next-by fed n s ss None is h = absurd (unmet fed (length fed) ss h)
next-by fed n s ss (Some own) is h =
    elim (cases_Bool (is_same_fed own s)) [
      | inl same ↦ record {
        is = split fed n own is ∙ ap (λ x. x ∷ drop (n + 1) fed) (same-fed own s same);
        below = within fed n own is;
        rest =
            subst (λ m. is_met (length fed) (fold (meets fed) m ss) ≡ true)
            (cond-true (is_same_fed own s) (Some (n + 1)) None same) h;
      }
      | inr other ↦
          absurd
          (unmet fed (length fed) ss
          (subst (λ m. is_met (length fed) (fold (meets fed) m ss) ≡ true)
          (cond-false (is_same_fed own s) (Some (n + 1)) None other) h))
    ]

fed-are : (fed : List Step) (n : ℕ) (steps : List Step) → is_met (length fed) (fold (meets fed) (Some n) steps) ≡ true
    → filter is_fed steps ≡ drop n fed
fed-are fed n [] h = sym (drop_all n fed (let e = eqb-true n (length fed) h in omega (arith, e)))
fed-are fed n (s ∷ ss) h =
    elim (cases_Bool (is_fed s)) [
      | inl is ↦
          let t = next-by fed n s ss (slice_get fed n) refl
          (subst (λ m. is_met (length fed) (fold (meets fed) m ss) ≡ true)
          (cond-true (is_fed s) (meets_at (slice_get fed n) n s) (Some n) is) h) in
          cond-true (is_fed s) (s ∷ filter is_fed ss) (filter is_fed ss) is
          ∙ ap (λ xs. s ∷ xs) (fed-are fed (n + 1) ss t.rest) ∙ sym t.is
      | inr other ↦
          cond-false (is_fed s) (s ∷ filter is_fed ss) (filter is_fed ss) other
          ∙ fed-are fed n ss
          (subst (λ m. is_met (length fed) (fold (meets fed) m ss) ≡ true)
          (cond-false (is_fed s) (meets_at (slice_get fed n) n s) (Some n) other) h)
    ]

met-by : (fed : List Step) (n : ℕ) (s : Step) (ss : List Step) (o : Option Step) → slice_get fed n ≡ o
    → is_fed s ≡ true → s ∷ ss ≡ drop n fed → (meets_at o n s ≡ Some (n + 1)) × (ss ≡ drop (n + 1) fed)
met-by fed n s ss None none f is = absurd (let e = is ∙ drop_all n fed (past fed n none) in cc)
met-by fed n s ss (Some own) there f is =
    let e = is ∙ split fed n own there in
    let same : own ≡ s = cc in
    let rest : ss ≡ drop (n + 1) fed = cc in (
      cond-true (is_same_fed own s) (Some (n + 1)) None
          (subst (λ x. is_same_fed x s ≡ true) (sym same) (fed-itself s f)),
      rest,
    )

fed-from : (fed : List Step) (n : ℕ) (steps : List Step) → n ≤ length fed → filter is_fed steps ≡ drop n fed
    → is_met (length fed) (fold (meets fed) (Some n) steps) ≡ true
fed-from fed n [] l is =
    let short = ap length is ∙ length-drop n fed in
    eq-eqb n (length fed) (omega (arith, short, l))
fed-from fed n (s ∷ ss) l is =
    elim (cases_Bool (is_fed s)) [
      | inl f ↦
          let front = sym (cond-true (is_fed s) (s ∷ filter is_fed ss) (filter is_fed ss) f) ∙ is in
          let m = met-by fed n s (filter is_fed ss) (slice_get fed n) refl f front in
          let long = ap length front ∙ length-drop n fed in
          subst (λ o. is_met (length fed) (fold (meets fed) o ss) ≡ true)
          (sym (cond-true (is_fed s) (meets_at (slice_get fed n) n s) (Some n) f ∙ m.0))
          (fed-from fed (n + 1) ss (omega (arith, long)) m.1)
      | inr other ↦
          subst (λ o. is_met (length fed) (fold (meets fed) o ss) ≡ true)
          (sym (cond-false (is_fed s) (meets_at (slice_get fed n) n s) (Some n) other))
          (fed-from fed n ss l (sym (cond-false (is_fed s) (s ∷ filter is_fed ss) (filter is_fed ss) other) ∙ is))
    ]

pub are_fed-are : (fed steps : List Step) → are_fed fed steps ≡ true → filter is_fed steps ≡ fed
are_fed-are fed steps h = fed-are fed 0 steps h

pub are_fed-from : (fed steps : List Step) → filter is_fed steps ≡ fed → are_fed fed steps ≡ true
are_fed-from fed steps is = fed-from fed 0 steps (omega arith) is
