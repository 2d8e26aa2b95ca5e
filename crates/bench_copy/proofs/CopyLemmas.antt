-- A dictionary is copied, one definition after the other.
use Rattle.std.proofs.Common.{◌≡◌, ◌∙◌, ◌<◌, ◌+◌, ◌-◌, ◌++◌, ◌∷◌, ℕ, List, [], Bor, Option, None, Some, ap, arith, false, length, refl, suc, sym, take, true, zero}
use Rattle.std.specs.Prelude.{is_some, option_copied, slice_get}
use Rattle.std.proofs.lemmas.Option.{same_Some}

-- all stands before a place at which nothing stands
all_before : {X : Type 0} (xs : List X) (k : ℕ) → slice_get xs k ≡ None → take k xs ≡ xs
all_before [] zero none = refl
all_before [] (suc k) none = refl
all_before (x ∷ xs) zero none = cc
all_before {X} (x ∷ xs) (suc k) none = ap (λ (ys : List X). x ∷ ys) (all_before xs k none)

-- one more
one_behind : {X : Type 0} (xs : List X) (k : ℕ) (x : X) → slice_get xs k ≡ Some x → take k xs ++ x ∷ [] ≡ take (suc k) xs
one_behind [] k x is = cc
one_behind {X} (y ∷ ys) zero x is = ap (λ (z : X). z ∷ []) (sym (same_Some y x is))
one_behind {X} (y ∷ ys) (suc k) x is = ap (λ (zs : List X). y ∷ zs) (one_behind ys k x is)

-- nothing stands behind a front
front_ends : {X : Type 0} (xs : List X) (k : ℕ) → slice_get (take k xs) k ≡ None
front_ends [] zero = refl
front_ends [] (suc k) = refl
front_ends (x ∷ xs) zero = refl
front_ends (x ∷ xs) (suc k) = front_ends xs k

-- where something stands is a place
pub place_within : {X : Type 0} (xs : List X) (k : ℕ) (x : X) → slice_get xs k ≡ Some x → k < length xs
place_within [] zero x is = cc
place_within [] (suc k) x is = cc
place_within (y ∷ ys) zero x is = omega arith
place_within (y ∷ ys) (suc k) x is = let below = place_within ys k x is in omega (arith, below)

-- no definition is there yet
pub front_start : {X : Type 0} (b xs : List X) → [] ≡ take (0 - length b) xs
front_start {X} b xs = let start : 0 ≡ 0 - length b = omega arith in ap (λ (k : ℕ). take k xs) start

-- nothing stands at a place of all: the front is all
pub front_all : {X : Type 0} (b xs : List X) (place : ℕ) → slice_get (b ++ xs) place ≡ None → take (place - length b) xs ≡ xs
front_all [] xs place none =
    let same : place - 0 ≡ place = omega arith in
    ap (λ (k : ℕ). take k xs) same ∙ all_before xs place none
front_all (d ∷ ds) xs zero none = cc
front_all (d ∷ ds) xs (suc k) none =
    let shorter : suc k - length (d ∷ ds) ≡ k - length ds = omega arith in
    ap (λ (j : ℕ). take j xs) shorter ∙ front_all ds xs k none

-- one of those that every dictionary has stands there
pub front_stays : {X : Type 0} (b xs : List X) (place : ℕ) (x : X) → slice_get (b ++ take (place - length b) xs) place ≡ Some x
    → take (place - length b) xs ≡ take (place + 1 - length b) xs
front_stays {X} [] xs place x is =
    let none : slice_get (take place xs) place ≡ None = front_ends xs place in
    let same : place ≡ place - 0 = omega arith in
    let some : slice_get (take place xs) place ≡ Some x = ap (λ (k : ℕ). slice_get (take k xs) place) same ∙ is in
    let both : None ≡ Some x = sym none ∙ some in
    cc
front_stays (d ∷ ds) xs zero x is =
    let same : 0 - length (d ∷ ds) ≡ 0 + 1 - length (d ∷ ds) = omega arith in
    ap (λ (k : ℕ). take k xs) same
front_stays (d ∷ ds) xs (suc k) x is =
    let shorter : suc k - length (d ∷ ds) ≡ k - length ds = omega arith in
    let longer : k + 1 - length ds ≡ suc k + 1 - length (d ∷ ds) = omega arith in
    ap (λ (j : ℕ). take j xs) shorter
    ∙ front_stays ds xs k x (ap (λ (j : ℕ). slice_get (ds ++ take j xs) k) (sym shorter) ∙ is)
    ∙ ap (λ (j : ℕ). take j xs) longer

-- none stands there yet, and it is put there
pub front_grows : {X : Type 0} (b xs : List X) (place : ℕ) (x : X) → slice_get (b ++ xs) place ≡ Some x
    → slice_get (b ++ take (place - length b) xs) place ≡ None → take (place - length b) xs ++ x ∷ [] ≡ take (place + 1 - length b) xs
front_grows {X} [] xs place x is none =
    let same : place - 0 ≡ place = omega arith in
    let more : suc place ≡ place + 1 - 0 = omega arith in
    ap (λ (k : ℕ). take k xs ++ x ∷ []) same ∙ one_behind xs place x is ∙ ap (λ (k : ℕ). take k xs) more
front_grows (d ∷ ds) xs zero x is none = cc
front_grows {X} (d ∷ ds) xs (suc k) x is none =
    let shorter : suc k - length (d ∷ ds) ≡ k - length ds = omega arith in
    let longer : k + 1 - length ds ≡ suc k + 1 - length (d ∷ ds) = omega arith in
    ap (λ (j : ℕ). take j xs ++ x ∷ []) shorter
    ∙ front_grows ds xs k x is (ap (λ (j : ℕ). slice_get (ds ++ take j xs) k) (sym shorter) ∙ none)
    ∙ ap (λ (j : ℕ). take j xs) longer

-- whether something is borrowed stays so where it is copied
some_copied : {X : Type 0} (r : Option (Bor X)) → is_some r ≡ true → (x : X) × (option_copied r ≡ Some x)
some_copied None is = cc
some_copied (Some x) is = (x.now, refl)

none_copied : {X : Type 0} (r : Option (Bor X)) → is_some r ≡ false → option_copied r ≡ None
none_copied None is = refl
none_copied (Some x) is = cc

-- what was looked at there was borrowed
pub stays_by : {X : Type 0} (b xs copy : List X) (place : ℕ) (r : Option (Bor X)) → copy ≡ take (place - length b) xs
    → option_copied r ≡ slice_get (b ++ copy) place → is_some r ≡ true → copy ≡ take (place + 1 - length b) xs
stays_by {X} b xs copy place r front looked some =
    let there = some_copied r some in
    let stands = ap (λ (ys : List X). slice_get (b ++ ys) place) (sym front) ∙ sym looked ∙ there.1 in
    front ∙ front_stays b xs place there.0 stands

pub grows_by : {X : Type 0} (b xs copy copy' : List X) (place : ℕ) (x : X) (r : Option (Bor X)) → copy ≡ take (place - length b) xs
    → slice_get (b ++ xs) place ≡ Some x → option_copied r ≡ slice_get (b ++ copy) place → is_some r ≡ false
    → copy' ≡ copy ++ x ∷ [] → copy' ≡ take (place + 1 - length b) xs
grows_by {X} b xs copy copy' place x r front there looked none is =
    let lacks = ap (λ (ys : List X). slice_get (b ++ ys) place) (sym front) ∙ sym looked ∙ none_copied r none in
    is ∙ ap (λ (ys : List X). ys ++ x ∷ []) front ∙ front_grows b xs place x there lacks

pub ruleset copying = (front_start, front_all, front_stays, front_grows)
