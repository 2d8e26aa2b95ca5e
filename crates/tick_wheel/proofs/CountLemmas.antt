-- How many timers are due is how many fire.
use Rattle.std.proofs.Common.{◌≡◌, ℕ, Bool, true, false, List, [], ◌∷◌, length, Some, AllPairs, Contains, refl, sym, ap, subst, ◌∙◌, inl, inr, true≢false, nat_eq, eqb-true, eq-eqb, arith}
use Rattle.std.specs.Prelude.{◌||◌}
use Rattle.std.specs.Option.{unwrap_or}
use Rattle.std.specs.List.{AllByRecursion, IsDistinct, list_any}
use Rattle.std.specs.Map.{keys_of}
use Rattle.std.specs.Cmp.{nat_eq_equiv}
use Rattle.std.specs.FinMap as fin
use Rattle.std.proofs.lemmas.List.{length-map}
use Rattle.std.proofs.lemmas.Map.Keys.{IsDistinct-cons, IsDistinct-from_apart}
use Rattle.std.proofs.lemmas.Map.Made.{length-from_same_keys}
use Rattle.tick_wheel.specs.declared.timer.Armed.{Armed}
use Rattle.tick_wheel.specs.declared.timer.Firing.{Firing}
use Rattle.tick_wheel.specs.Timers.{ByOwner, AreFired, ComesBefore, IsDueFiring}
use Rattle.tick_wheel.specs.Places.{Place, armed_of, firings_of}
use Rattle.tick_wheel.proofs.OrderLemmas.{head_or_rest, Contains-head, Contains-rest, not_again, rest_pairs}
use Rattle.tick_wheel.proofs.DueLemmas.{firings_of-due, owners_of, IsDistinct-firings_of}

-- the owner of a firing is among the owners
owner_in : (fs : List Firing) (f : Firing) → Contains fs f → list_any (nat_eq f.owner) (owners_of fs) ≡ true
owner_in [] f there = absurd (omega (arith, there.1))
owner_in (g ∷ gs) f there = elim (head_or_rest g f gs there) [
  | inl same ↦ ap (λ b. b || list_any (nat_eq f.owner) (owners_of gs)) (eq-eqb f.owner g.owner (ap (λ (x : Firing). x.owner) (sym same)))
  | inr rest ↦ ap (λ b. nat_eq f.owner g.owner || b) (owner_in gs f rest) ∙ or_true (nat_eq f.owner g.owner)
]
  where
    or_true : (b : Bool) → (b || true) ≡ true
    or_true true = refl
    or_true false = refl

-- each of the owners is that of a firing
owner_from : (fs : List Firing) (q : ℕ) → list_any (nat_eq q) (owners_of fs) ≡ true
    → (f : Firing) × (Contains fs f × (q ≡ f.owner))
owner_from [] q is = absurd (true≢false (sym is))
owner_from (g ∷ gs) q is = by (nat_eq q g.owner) refl is (owner_from gs q)
  where
    by : (b : Bool) → nat_eq q g.owner ≡ b → (b || list_any (nat_eq q) (owners_of gs)) ≡ true
        → (list_any (nat_eq q) (owners_of gs) ≡ true → (f : Firing) × (Contains gs f × (q ≡ f.owner)))
        → (f : Firing) × (Contains (g ∷ gs) f × (q ≡ f.owner))
    by true same h others = (g, (Contains-head g gs, eqb-true q g.owner same))
    by false differ h others = let rest = others h in (rest.0, (Contains-rest g rest.0 gs rest.1.0, rest.1.1))

-- an owner that none of the others has
all_apart : (x : Firing) (ys : List Firing) → ((f : Firing) → Contains ys f → x.owner ≡ f.owner → ⊥)
    → AllByRecursion (λ y. nat_eq x.owner y ≡ false) (owners_of ys)
all_apart x [] apart = tt
all_apart x (y ∷ ys) apart = (by (nat_eq x.owner y.owner) refl, all_apart x ys (λ f there. apart f (Contains-rest y f ys there)))
  where
    by : (b : Bool) → nat_eq x.owner y.owner ≡ b → nat_eq x.owner y.owner ≡ false
    by true same = absurd (apart y (Contains-head y ys) (eqb-true x.owner y.owner same))
    by false differ = differ

-- firings in order of which no two have one owner
IsDistinct-owners : (fs : List Firing) → AllPairs ComesBefore fs
    → ((f g : Firing) → Contains fs f → Contains fs g → f.owner ≡ g.owner → f ≡ g) → IsDistinct nat_eq (owners_of fs)
IsDistinct-owners [] ordered one = IsDistinct-from_apart nat_eq [] (λ i j d before inside. absurd (omega arith))
IsDistinct-owners (x ∷ xs) ordered one =
    IsDistinct-cons nat_eq x.owner (owners_of xs)
    (all_apart x xs (λ f there same. not_again x f xs ordered there (one x f (Contains-head x xs) (Contains-rest x f xs there) same)))
    (IsDistinct-owners xs (rest_pairs ComesBefore x xs ordered) (λ f g a b. one f g (Contains-rest x f xs a) (Contains-rest x g xs b)))

-- two firings of one armed timer are one
one_firing : (armed : ByOwner) (now : ℕ) (f g : Firing) → IsDueFiring armed now f → IsDueFiring armed now g → f.owner ≡ g.owner → f ≡ g
one_firing armed now f g a b same =
    let timers : Some (record { generation = f.generation; due = f.due }) ≡ Some (record { generation = g.generation; due = g.due }) =
    sym a.0 ∙ ap (fin.get armed) same ∙ b.0 in
    let t : ◌≡◌ {A = Armed} (record { generation = f.generation; due = f.due }) (record { generation = g.generation; due = g.due }) =
    ap (λ o. unwrap_or o (record { generation = f.generation; due = f.due })) timers in
    λ i. record { due = (t i).due; owner = same i; generation = (t i).generation }

-- as many fire as there are firings of places
pub length-AreFired : (now : ℕ) (places : List Place) → IsDistinct nat_eq (keys_of places) → (fired : List Firing)
    → AreFired (armed_of places) now fired → length (firings_of now places) ≡ length fired
length-AreFired now places distinct fired are =
    sym (length-map (firings_of now places) (λ f. f.owner))
    ∙ length-from_same_keys nat_eq_equiv (owners_of (firings_of now places)) (owners_of fired) (IsDistinct-firings_of now places distinct)
    (IsDistinct-owners fired are.ordered (λ f g a b. one_firing (armed_of places) now f g ((are.each f).0 a) ((are.each g).0 b)))
    (λ q. same q (list_any (nat_eq q) (owners_of (firings_of now places))) (list_any (nat_eq q) (owners_of fired)) (into q) (back q))
    ∙ length-map fired (λ f. f.owner)
  where
    into : (q : ℕ) → list_any (nat_eq q) (owners_of (firings_of now places)) ≡ true → list_any (nat_eq q) (owners_of fired) ≡ true
    into q is =
        let f = owner_from (firings_of now places) q is in
        subst (λ k. list_any (nat_eq k) (owners_of fired) ≡ true) (sym f.1.1)
        (owner_in fired f.0 ((are.each f.0).1 ((firings_of-due now places distinct f.0).0 f.1.0)))

    back : (q : ℕ) → list_any (nat_eq q) (owners_of fired) ≡ true → list_any (nat_eq q) (owners_of (firings_of now places)) ≡ true
    back q is =
        let f = owner_from fired q is in
        subst (λ k. list_any (nat_eq k) (owners_of (firings_of now places)) ≡ true) (sym f.1.1)
        (owner_in (firings_of now places) f.0 ((firings_of-due now places distinct f.0).1 ((are.each f.0).0 f.1.0)))

    same : (q : ℕ) (a b : Bool) → (a ≡ true → b ≡ true) → (b ≡ true → a ≡ true) → a ≡ b
    same q true b h k = sym (h refl)
    same q false true h k = k refl
    same q false false h k = refl
