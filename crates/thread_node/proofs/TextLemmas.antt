-- Texts only grow.
use Rattle.std.proofs.Common.{◌≡◌, ◌<◌, ◌+◌, ◌∙◌, ◌++◌, ◌∷◌, ℕ, Bool, false, true, List, [], Some, ap, append-nil, arith, get_or, if◌then◌else◌, length, map, set, subst, suc, sym, zero}
use Rattle.std.proofs.lemmas.List.{append_assoc, length-append, map-append}
use Rattle.std.proofs.lemmas.List.Sums.{sum_by-cons, sum_by_push}
use Rattle.bench_net.specs.Texts.{Grows}
use Rattle.thread_node.specs.Nodes.{AllGrow, drawn_in}

-- a text that is as it was
pub grows_same : (text : List ℕ) → Grows (Some text) (Some text)
grows_same text = ([], sym (append-nil text))

grows_more : (a b c : List ℕ) → Grows (Some a) (Some b) → Grows (Some b) (Some c) → Grows (Some a) (Some c)
grows_more a b c first next =
    (first.0 ++ next.0, next.1 ∙ ap (λ (text : List ℕ). text ++ next.0) first.1 ∙ append_assoc a first.0 next.0)

-- all as they were
pub all_same : (texts : List (List ℕ)) → AllGrow texts texts
all_same [] = tt
all_same (text ∷ texts) = (grows_same text, all_same texts)

-- once, and next once more
pub all_more : (a b c : List (List ℕ)) → AllGrow a b → AllGrow b c → AllGrow a c
all_more [] b c first next = tt
all_more (x ∷ xs) [] c first next = absurd first
all_more (x ∷ xs) (y ∷ ys) [] first next = absurd next
all_more (x ∷ xs) (y ∷ ys) (z ∷ zs) first next =
    (grows_more x y z first.0 next.0, all_more xs ys zs first.1 next.1)

-- one more text
pub all_behind : (texts more : List (List ℕ)) → AllGrow texts (texts ++ more)
all_behind [] more = tt
all_behind (text ∷ texts) more = (grows_same text, all_behind texts more)

-- one more text is put behind them
pub all_push : {V : Type 0} (f : V → List ℕ) (first : List (List ℕ)) (xs xs' : List V) (v : V) → xs' ≡ xs ++ v ∷ []
    → AllGrow first (map f xs) → AllGrow first (map f xs')
all_push {V} f first xs xs' v is grow =
    subst (λ (ys : List (List ℕ)). AllGrow first ys) (sym (ap (map f) is ∙ map-append f xs (v ∷ [])))
    (all_more first (map f xs) (map f xs ++ map f (v ∷ [])) grow (all_behind (map f xs) (map f (v ∷ []))))

-- one text changes, and grows
pub all_set : {V : Type 0} (f : V → List ℕ) (xs : List V) (place : ℕ) (v d : V) → Grows (Some (f (get_or xs place d))) (Some (f v))
    → AllGrow (map f xs) (map f (set xs place v))
all_set f [] zero v d grow = tt
all_set f [] (suc place) v d grow = tt
all_set f (x ∷ xs) zero v d grow = (grow, all_same (map f xs))
all_set f (x ∷ xs) (suc place) v d grow = (grows_same (f x), all_set f xs place v d grow)

-- octets are put behind a text, or it stays
pub grows_if : (b : Bool) (old more new : List ℕ) → new ≡ (if b then old ++ more else old) → Grows (Some old) (Some new)
grows_if true old more new is = (more, is)
grows_if false old more new is = ([], is ∙ sym (append-nil old))

-- no octet is drawn where an empty text is put behind them
pub drawn_push : {V : Type 0} (f : V → List ℕ) (xs xs' : List V) (v : V) → xs' ≡ xs ++ v ∷ [] → f v ≡ []
    → drawn_in (map f xs') ≡ drawn_in (map f xs)
drawn_push f xs xs' v is empty =
    ap (λ ys. drawn_in (map f ys)) is ∙ ap drawn_in (map-append f xs (v ∷ []))
    ∙ sum_by_push length (map f xs) (f v) ∙ ap (λ text. drawn_in (map f xs) + length text) empty ∙ omega arith

-- so many are where so many are put behind a text
pub drawn_set : {V : Type 0} (f : V → List ℕ) (xs : List V) (place : ℕ) (v d : V) (more : List ℕ) → place < length xs
    → f v ≡ f (get_or xs place d) ++ more → drawn_in (map f (set xs place v)) ≡ drawn_in (map f xs) + length more
drawn_set f [] place v d more there is = absurd (omega (arith, there))
drawn_set f (x ∷ xs) zero v d more there is =
    let longer = ap length is ∙ length-append (f x) more in
    omega (arith, sum_by-cons length (f v) (map f xs), sum_by-cons length (f x) (map f xs), longer)
drawn_set f (x ∷ xs) (suc place) v d more there is =
    let rest = drawn_set f xs place v d more (omega (arith, there)) is in
    omega (arith, sum_by-cons length (f x) (map f (set xs place v)), sum_by-cons length (f x) (map f xs), rest)

pub ruleset growing = (grows_same, all_same)
