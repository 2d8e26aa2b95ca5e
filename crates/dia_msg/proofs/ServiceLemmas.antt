-- Groups of services, looked at one after the other.
use Rattle.std.proofs.Common.{◌≡◌, ◌||◌, ℕ, ◌+◌, ◌<◌, ◌≤◌, Bool, true, false, List, [], ◌∷◌, ◌++◌, length, filter, Option, refl, arith, drop, get_or}
use Rattle.std.specs.Prelude.{nat_lt}
use Rattle.std.specs.List.{list_any}
use Rattle.std.proofs.lemmas.Bool.{lt-ltb, le-ltb}
use Rattle.std.proofs.lemmas.List.{length-append}
use Rattle.dia_avp.specs.declared.avp.AvpView.{AvpView}
use Rattle.dia_avp.specs.Reading.{avps_in}
use Rattle.dia_avp.specs.View.{seen}
use Rattle.dia_avp.specs.Look.{is_coded, first_number}
use Rattle.dia_msg.specs.Faults.{is_same, has_twice}
use Rattle.dia_msg.specs.Sorting.{seen_all}
use Rattle.dia_msg.specs.Walk.{groups_in}
use Rattle.dia_msg.proofs.MissingLemmas.{split_at}

abbrev Group : Type 0
Group = Option ℕ

or_true : (b : Bool) → (b || true) ≡ true
or_true true = refl
or_true false = refl

any-front : (p : Group → Bool) (xs ys : List Group) (g : Group) → p g ≡ true → list_any p (xs ++ g ∷ ys) ≡ true
any-front p [] ys g e = rw e refl
any-front p (x ∷ xs) ys g e = rw (any-front p xs ys g e) (or_true (p x))

meets : (x g : Group) (b : Bool) (xs ys : List Group) → is_same x g ≡ b → (b || list_any (λ h. is_same h g) xs) ≡ true → (list_any (λ h. is_same h g) xs ≡ true → has_twice (xs ++ g ∷ ys) ≡ true)
    → (list_any (is_same x) (xs ++ g ∷ ys) || has_twice (xs ++ g ∷ ys)) ≡ true
meets x g true xs ys e h next = rw (any-front (is_same x) xs ys g e) refl
meets x g false xs ys e h next = rw (next h) (or_true (list_any (is_same x) (xs ++ g ∷ ys)))

-- a group that was met before stands twice
pub twice : (xs ys : List Group) (g : Group) → list_any (λ h. is_same h g) xs ≡ true → has_twice (xs ++ g ∷ ys) ≡ true
twice [] ys g e = absurd cc
twice (x ∷ xs) ys g e = meets x g (is_same x g) xs ys refl e (twice xs ys g)

both_false : (a b : Bool) → (a || b) ≡ false → (a ≡ false) × (b ≡ false)
both_false true b e = absurd cc
both_false false b e = (refl, e)

any-last : (p : Group → Bool) (xs : List Group) (g : Group) → list_any p xs ≡ false → p g ≡ false → list_any p (xs ++ g ∷ []) ≡ false
any-last p [] g e f = rw f refl
any-last p (x ∷ xs) g e f =
    let h = both_false (p x) (list_any p xs) e in
    rw h.0 (any-last p xs g h.1 f)

-- a group that wasn't does not
pub once : (xs : List Group) (g : Group) → has_twice xs ≡ false → list_any (λ h. is_same h g) xs ≡ false → has_twice (xs ++ g ∷ []) ≡ false
once [] g e f = refl
once (x ∷ xs) g e f =
    let h = both_false (list_any (is_same x) xs) (has_twice xs) e in
    let k = both_false (is_same x g) (list_any (λ y. is_same y g) xs) f in
    rw (any-last (is_same x) xs g h.0 k.0, once xs g h.1 k.1) refl

abbrev is_faulty : ℕ → List Group → Bool
is_faulty most groups = nat_lt most (length groups) || has_twice groups

-- one more than there may be, or one that was met before
pub too_many : (most : ℕ) (xs ys : List Group) (g : Group) → most ≤ length xs → is_faulty most (xs ++ g ∷ ys) ≡ true
too_many most xs ys g le = rw (lt-ltb most (length (xs ++ g ∷ ys)) (omega (arith, length-append xs (g ∷ ys)))) refl

pub met : (most : ℕ) (xs ys : List Group) (g : Group) → list_any (λ h. is_same h g) xs ≡ true → is_faulty most (xs ++ g ∷ ys) ≡ true
met most xs ys g e = rw (twice xs ys g e) (or_true (nat_lt most (length (xs ++ g ∷ ys))))

pub all_apart : (most : ℕ) (xs : List Group) → length xs ≤ most → has_twice xs ≡ false → is_faulty most xs ≡ false
all_apart most xs le e = rw (le-ltb most (length xs) le, e) refl

-- the groups to come, with the next AVP
abbrev pub to_come : List AvpView → ℕ → List Group
to_come avps i = groups_in (filter (is_coded 456) (seen_all (drop i avps)))

pub next_group : (avps : List AvpView) (i : ℕ) (d : AvpView) → i < length avps → is_coded 456 (seen (get_or avps i d)) ≡ true → to_come avps i ≡ first_number 432 (avps_in (seen (get_or avps i d)).octets).0 ∷ to_come avps (i + 1)
next_group avps i d lt e = rw (split_at avps i d lt, e) refl

pub next_other : (avps : List AvpView) (i : ℕ) (d : AvpView) → i < length avps → is_coded 456 (seen (get_or avps i d)) ≡ false → to_come avps i ≡ to_come avps (i + 1)
next_other avps i d lt e = rw (split_at avps i d lt, e) refl
