use Rattle.std.proofs.Common.{◌≡◌, ℕ, ◌+◌, ◌-◌, ◌<◌, ◌≤◌, zero, suc, Bool, true, false, Option, Some, None, List, [], ◌∷◌, ◌++◌, length, take, map, filter, replicate, slice_set, get_or, arith, refl, ap, length-append, append-nil}
use Rattle.std.specs.List.{filter_map}
use Rattle.std.specs.Option.{option_to_list}
use Rattle.std.proofs.lemmas.List.Elements.{filter-append, filter_map-append}
use Rattle.std.proofs.lemmas.List.{length-take, take_all, take-append-le}

-- one more behind fewer than n
pub take_short : {A : Type 0} (n : ℕ) (ys : List A) (z : A) → length (take n ys) < n → take n (ys ++ z ∷ []) ≡ take n ys ++ z ∷ []
take_short n ys z h =
    let e = length-take n ys in
    let k : length ys < n = omega (arith, e) in
    let w : length (ys ++ z ∷ []) ≡ length ys + 1 = length-append ys (z ∷ []) in
    let whole : take n ys ≡ ys = take_all n ys (omega arith) in
    rw whole (take_all n (ys ++ z ∷ []) (omega arith))

-- more behind n
pub take_full : {A : Type 0} (n : ℕ) (ys zs : List A) → n ≤ length (take n ys) → take n (ys ++ zs) ≡ take n ys
take_full n ys zs h =
    let e = length-take n ys in
    take-append-le n ys zs (omega (arith, e))

filter-yes : {X : Type 0} (p : X → Bool) (xs : List X) (x : X) → p x ≡ true → filter p (xs ++ x ∷ []) ≡ filter p xs ++ x ∷ []
filter-yes p xs x e = rw (filter-append p xs (x ∷ []), e) refl

filter-no : {X : Type 0} (p : X → Bool) (xs : List X) (x : X) → p x ≡ false → filter p (xs ++ x ∷ []) ≡ filter p xs
filter-no p xs x e = rw (filter-append p xs (x ∷ []), e) (append-nil (filter p xs))

filter_map-one : {X Y : Type 0} (f : X → Option Y) (x : X) → option_to_list (f x) ≡ filter_map f (x ∷ [])
filter_map-one f x = elim (f x) as (λ o. f x ≡ o → option_to_list o ≡ filter_map f (x ∷ [])) [ Some y ↦ λ e. rw e refl | None ↦ λ e. rw e refl ] refl

at-most-one : {Y : Type 0} (o : Option Y) → length (option_to_list o) ≤ 1
at-most-one (Some y) = omega arith
at-most-one None = omega arith

-- the first n of xs that count give ys, and there are `counted` of them
pub record AreGiven {X Y : Type 0} (f : X → Option Y) (p : X → Bool) (n : ℕ) (xs : List X) (ys : List Y) (counted : ℕ) : Type 0 where
  pub given : ys ≡ filter_map f (take n (filter p xs))
  pub number : counted ≡ length (take n (filter p xs))
  pub few : length ys ≤ counted

-- one more that counts, behind fewer than n
counted-more : {X : Type 0} (n : ℕ) (p : X → Bool) (xs : List X) (x : X) → p x ≡ true → length (take n (filter p xs)) < n → take n (filter p (xs ++ x ∷ [])) ≡ take n (filter p xs) ++ x ∷ []
counted-more n p xs x e h = rw (filter-yes p xs x e) (take_short n (filter p xs) x h)

-- one that doesn't count
counted-other : {X : Type 0} (n : ℕ) (p : X → Bool) (xs : List X) (x : X) → p x ≡ false → take n (filter p (xs ++ x ∷ [])) ≡ take n (filter p xs)
counted-other n p xs x e = rw (filter-no p xs x e) refl

-- more behind n
counted-full : {X : Type 0} (n : ℕ) (p : X → Bool) (xs : List X) (x : X) (b : Bool) → p x ≡ b → n ≤ length (take n (filter p xs)) → take n (filter p (xs ++ x ∷ [])) ≡ take n (filter p xs)
counted-full n p xs x true e h = rw (filter-yes p xs x e) (take_full n (filter p xs) (x ∷ []) h)
counted-full n p xs x false e h = counted-other n p xs x e

-- one that counts, and what it gives
pub AreGiven-more : {X Y : Type 0} (f : X → Option Y) (p : X → Bool) (n : ℕ) (xs : List X) (ys : List Y) (counted : ℕ) (x : X) → AreGiven f p n xs ys counted → counted < n → p x ≡ true → AreGiven f p n (xs ++ x ∷ []) (ys ++ option_to_list (f x)) (counted + 1)
AreGiven-more f p n xs ys counted x g l e =
    let more = counted-more n p xs x e (rw (← g.number) l) in
    record {
      given = rw (more, filter_map-append, ← g.given) (ap (λ zs. ys ++ zs) (filter_map-one f x));
      number = rw (more, length-append, ← g.number) refl;
      few = omega (arith, length-append ys (option_to_list (f x)), at-most-one (f x), g.few);
    }

-- one that doesn't count
pub AreGiven-other : {X Y : Type 0} (f : X → Option Y) (p : X → Bool) (n : ℕ) (xs : List X) (ys : List Y) (counted : ℕ) (x : X) → AreGiven f p n xs ys counted → p x ≡ false → AreGiven f p n (xs ++ x ∷ []) ys counted
AreGiven-other f p n xs ys counted x g e =
    let same = counted-other n p xs x e in
    record { given = rw same g.given; number = rw same g.number; few = g.few }

-- one behind those that are enough
pub AreGiven-full : {X Y : Type 0} (f : X → Option Y) (p : X → Bool) (n : ℕ) (xs : List X) (ys : List Y) (counted : ℕ) (x : X) → AreGiven f p n xs ys counted → n ≤ counted → AreGiven f p n (xs ++ x ∷ []) ys counted
AreGiven-full f p n xs ys counted x g l =
    let same = counted-full n p xs x (p x) refl (rw (← g.number) l) in
    record { given = rw same g.given; number = rw same g.number; few = g.few }

put-in : {X : Type 0} (f : X → ℕ) (xs : List X) (i m : ℕ) (d : X) → i < length xs
    → slice_set (map f (take i xs) ++ 0 ∷ replicate m 0) i (f (get_or xs i d)) ≡ map f (take (i + 1) xs) ++ replicate m 0
put-in f [] i m d l = absurd (omega arith)
put-in f (x ∷ xs) zero m d l = refl
put-in f (x ∷ xs) (suc i) m d l =
    let e : suc i + 1 ≡ suc (i + 1) = omega arith in
    rw e (ap (λ zs. f x ∷ zs) (put-in f xs i m d (omega arith)))

-- one more value in front of zeros
pub padded-more : {X : Type 0} (f : X → ℕ) (xs : List X) (i n : ℕ) (d : X) → i < length xs → length xs ≤ n
    → slice_set (map f (take i xs) ++ replicate (n - i) 0) i (f (get_or xs i d)) ≡ map f (take (i + 1) xs) ++ replicate (n - (i + 1)) 0
padded-more f xs i n d l h =
    let e : n - i ≡ suc (n - (i + 1)) = omega arith in
    rw e (put-in f xs i (n - (i + 1)) d l)
