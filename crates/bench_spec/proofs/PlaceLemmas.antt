-- The place of an item among the distinct ones of a list stays, however the list goes on behind it.
use Rattle.std.proofs.Common.{◌≡◌, ◌+◌, List, [], ◌∷◌, ◌++◌, Bool, true, false, refl, sym, ◌∙◌, ap, inl, inr}
use Rattle.std.specs.Prelude.{filter, not, ◌||◌, cond, ◌⊎◌}
use Rattle.std.specs.List.{list_any, position_or_len}
use Rattle.std.proofs.lemmas.Bool.{false≢true}
use Rattle.std.proofs.lemmas.List.Elements.{filter-append}
use Rattle.std.proofs.lemmas.Map.Views.{any-filter_same}
use Rattle.bench_item.specs.Past.{distinct}

-- a list that goes on with an item that passes
place_before : {X : Type 0} (p : X → Bool) (xs : List X) (k : X) (rest : List X) → p k ≡ true
    → position_or_len p (xs ++ k ∷ rest) ≡ position_or_len p xs
place_before p [] k rest passes = rw passes refl
place_before p (x ∷ xs) k rest passes = ap (λ n. cond (not (p x)) (1 + n) 0) (place_before p xs k rest passes)

-- a list in which one passes already
place_there : {X : Type 0} (p : X → Bool) (xs rest : List X) → list_any p xs ≡ true
    → position_or_len p (xs ++ rest) ≡ position_or_len p xs
place_there p [] rest any = absurd (false≢true any)
place_there p (x ∷ xs) rest any = by (place_there p xs rest) (p x) refl
  where
    by : (list_any p xs ≡ true → position_or_len p (xs ++ rest) ≡ position_or_len p xs) → (b : Bool) → p x ≡ b
        → position_or_len p ((x ∷ xs) ++ rest) ≡ position_or_len p (x ∷ xs)
    by later true is = rw is refl
    by later false is = ap (λ n. cond (not (p x)) (1 + n) 0) (later (sym (ap (λ b. b || list_any p xs) is) ∙ any))

-- how the distinct items of a list go on, with that item behind it: with the item, unless one that is the same is there
record GoesOnWith {X : Type 0} (is_same : X → X → Bool) (xs : List X) (k : X) (ys : List X) : Type 0 where
  rest : List X
  joined : distinct is_same (xs ++ k ∷ ys) ≡ distinct is_same xs ++ rest
  begins : ((tail : List X) × (rest ≡ k ∷ tail)) ⊎ (list_any (λ y. is_same y k) (distinct is_same xs) ≡ true)

goes_on : {X : Type 0} (is_same : X → X → Bool) (sound : (x y : X) → is_same x y ≡ true → x ≡ y) (xs : List X) (k : X)
    (ys : List X) → GoesOnWith is_same xs k ys
goes_on is_same sound [] k ys =
    record {
      rest = distinct is_same (k ∷ ys);
      joined = refl;
      begins =
          inl (filter (λ y. not (is_same k y)) (distinct is_same ys), refl);
    }
goes_on {X} is_same sound (x ∷ xs) k ys = next (goes_on is_same sound xs k ys) (is_same x k) refl
  where
    others : X → Bool
    others y = not (is_same x y)

    keeps : is_same x k ≡ false → (y : X) → is_same y k ≡ true → others y ≡ true
    keeps apart y same = ap not (ap (is_same x) (sound y k same) ∙ apart)

    joined_by : (g : GoesOnWith is_same xs k ys)
        → distinct is_same ((x ∷ xs) ++ k ∷ ys) ≡ distinct is_same (x ∷ xs) ++ filter others g.rest
    joined_by g = ap (λ zs. x ∷ zs) (ap (filter others) g.joined ∙ filter-append others (distinct is_same xs) g.rest)

    begin_by : (rest : List X) → is_same x k ≡ false
        → ((tail : List X) × (rest ≡ k ∷ tail)) ⊎ (list_any (λ y. is_same y k) (distinct is_same xs) ≡ true)
        → ((tail : List X) × (filter others rest ≡ k ∷ tail))
        ⊎ (list_any (λ y. is_same y k) (distinct is_same (x ∷ xs)) ≡ true)
    begin_by rest apart (inl b) = inl (filter others b.0, ap (filter others) b.1 ∙ rw apart refl)
    begin_by rest apart (inr any) =
        inr (rw apart (any-filter_same (λ y. is_same y k) others true (keeps apart) (distinct is_same xs) ∙ any))

    next : GoesOnWith is_same xs k ys → (b : Bool) → is_same x k ≡ b → GoesOnWith is_same (x ∷ xs) k ys
    next g true same = record { rest = filter others g.rest; joined = joined_by g; begins = inr (rw same refl) }
    next g false apart =
        record { rest = filter others g.rest; joined = joined_by g; begins = begin_by g.rest apart g.begins }

pub place_stays : {X : Type 0} (is_same : X → X → Bool) (sound : (x y : X) → is_same x y ≡ true → x ≡ y) (xs : List X)
    (k : X) (ys : List X) → is_same k k ≡ true
    → position_or_len (λ y. is_same y k) (distinct is_same (xs ++ k ∷ ys))
    ≡ position_or_len (λ y. is_same y k) (distinct is_same xs)
place_stays {X} is_same sound xs k ys itself = by (goes_on is_same sound xs k ys)
  where
    at_rest : (rest : List X)
        → ((tail : List X) × (rest ≡ k ∷ tail)) ⊎ (list_any (λ y. is_same y k) (distinct is_same xs) ≡ true)
        → position_or_len (λ y. is_same y k) (distinct is_same xs ++ rest)
        ≡ position_or_len (λ y. is_same y k) (distinct is_same xs)
    at_rest rest (inl b) =
        ap (λ zs. position_or_len (λ y. is_same y k) (distinct is_same xs ++ zs)) b.1
        ∙ place_before (λ y. is_same y k) (distinct is_same xs) k b.0 itself
    at_rest rest (inr any) = place_there (λ y. is_same y k) (distinct is_same xs) rest any

    by : GoesOnWith is_same xs k ys
        → position_or_len (λ y. is_same y k) (distinct is_same (xs ++ k ∷ ys))
        ≡ position_or_len (λ y. is_same y k) (distinct is_same xs)
    by g = ap (position_or_len (λ y. is_same y k)) g.joined ∙ at_rest g.rest g.begins
