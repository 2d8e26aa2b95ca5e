-- The places of a machine in a log with one more entry.
use Rattle.std.proofs.Common.{◌≡◌, ℕ, ◌+◌, ◌<◌, ◌≤◌, true, false, List, [], ◌∷◌, ◌++◌, length, map, filter, refl, ap, sym, subst, take, get_or, ◌∙◌, arith}
use Rattle.std.proofs.lemmas.List.{map-append, append-nil, take_more, length-take-le}
use Rattle.std.proofs.lemmas.List.Elements.{filter-append}
use Rattle.std.specs.List.{enumerate_from}
use Rattle.bench_item.specs.declared.entry.Entry.{Entry}
use Rattle.bench_log.specs.Moves.{moves, places_of}

-- the last is numbered by how many come before it
pub enumerate_from-last : {X : Type 0} → (n : ℕ) (xs : List X) (x : X) → enumerate_from n (xs ++ x ∷ []) ≡ enumerate_from n xs ++ (n + length xs, x) ∷ []
enumerate_from-last n [] x = grind arith
enumerate_from-last {X = X} n (y ∷ ys) x =
    let rest : enumerate_from (n + 1) (ys ++ x ∷ []) ≡ enumerate_from (n + 1) ys ++ (n + length (y ∷ ys), x) ∷ [] = grind (arith, enumerate_from-last (n + 1) ys x) in
    ap (λ (zs : List (ℕ × X)). (n, y) ∷ zs) rest

-- the same from 0 on
enumerate_from-first : {X : Type 0} → (xs : List X) (x : X) → enumerate_from 0 (xs ++ x ∷ []) ≡ enumerate_from 0 xs ++ (length xs, x) ∷ []
enumerate_from-first {X = X} xs x =
    let from : 0 + length xs ≡ length xs = omega arith in
    let last : enumerate_from 0 (xs ++ x ∷ []) ≡ enumerate_from 0 xs ++ (0 + length xs, x) ∷ [] = enumerate_from-last {X = X} 0 xs x in
    subst (λ (n : ℕ). enumerate_from 0 (xs ++ x ∷ []) ≡ enumerate_from 0 xs ++ (n, x) ∷ []) from last

-- the places with those that the last entry adds
pub places_of-last : (machine : ℕ) (log : List Entry) (e : Entry) → places_of machine (log ++ e ∷ []) ≡ places_of machine log ++ map (λ (n : ℕ × Entry). n.0) (filter (λ (n : ℕ × Entry). moves machine n.1) ((length log, e) ∷ []))
places_of-last machine log e =
    let numbered : enumerate_from 0 (log ++ e ∷ []) ≡ enumerate_from 0 log ++ (length log, e) ∷ [] = enumerate_from-first log e in
    let joined : filter (λ (n : ℕ × Entry). moves machine n.1) (enumerate_from 0 (log ++ e ∷ [])) ≡ filter (λ (n : ℕ × Entry). moves machine n.1) (enumerate_from 0 log) ++ filter (λ (n : ℕ × Entry). moves machine n.1) ((length log, e) ∷ []) =
    ap (filter (λ (n : ℕ × Entry). moves machine n.1)) numbered ∙ filter-append (λ (n : ℕ × Entry). moves machine n.1) (enumerate_from 0 log) ((length log, e) ∷ []) in
    ap (map (λ (n : ℕ × Entry). n.0)) joined ∙ map-append (λ (n : ℕ × Entry). n.0) (filter (λ (n : ℕ × Entry). moves machine n.1) (enumerate_from 0 log)) (filter (λ (n : ℕ × Entry). moves machine n.1) ((length log, e) ∷ []))

-- an entry that moves the machine
pub places_of-moved : (machine : ℕ) (log : List Entry) (e : Entry) → moves machine e ≡ true → places_of machine (log ++ e ∷ []) ≡ places_of machine log ++ length log ∷ []
places_of-moved machine log e moved = rw (places_of-last machine log e, moved) refl

-- an entry that does not
pub places_of-still : (machine : ℕ) (log : List Entry) (e : Entry) → moves machine e ≡ false → places_of machine (log ++ e ∷ []) ≡ places_of machine log
places_of-still machine log e still = rw (places_of-last machine log e, still) (append-nil _)

-- one more place of a log, at which the machine moves
pub places_of-next : (machine : ℕ) (log : List Entry) (place : ℕ) (e : Entry) → place < length log → e ≡ get_or log place e → moves machine e ≡ true → places_of machine (take (place + 1) log) ≡ places_of machine (take place log) ++ place ∷ []
places_of-next machine log place e within here moved =
    let front : take (place + 1) log ≡ take place log ++ e ∷ [] = take_more log place e within ∙ ap (λ (x : Entry). take place log ++ x ∷ []) (sym here) in
    let short : place ≤ length log = omega (arith, within) in
    ap (places_of machine) front ∙ places_of-moved machine (take place log) e moved ∙ ap (λ (n : ℕ). places_of machine (take place log) ++ n ∷ []) (length-take-le place log short)

-- one more place, at which it does not
pub places_of-same : (machine : ℕ) (log : List Entry) (place : ℕ) (e : Entry) → place < length log → e ≡ get_or log place e → moves machine e ≡ false → places_of machine (take (place + 1) log) ≡ places_of machine (take place log)
places_of-same machine log place e within here still =
    let front : take (place + 1) log ≡ take place log ++ e ∷ [] = take_more log place e within ∙ ap (λ (x : Entry). take place log ++ x ∷ []) (sym here) in
    ap (places_of machine) front ∙ places_of-still machine (take place log) e still
