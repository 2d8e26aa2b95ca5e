-- What a line makes of more messages.
use Rattle.std.proofs.Common.{◌≡◌, ℕ, Bool, true, false, List, [], ◌∷◌, ◌++◌, refl, sym, ap, subst, ◌∙◌}
use Rattle.std.specs.Prelude.{◌||◌, option_to_list}
use Rattle.std.specs.List.{list_any}
use Rattle.std.proofs.lemmas.List.Concat.{flat_map-append}
use Rattle.bench_item.specs.declared.hears.Heard.{Heard}
use Rattle.bench_item.specs.declared.hears.Turn.{Turn}
use Rattle.bench_line.specs.Talk.{after_turn, after_turns, turns_by, does_close, posts_in, answers_in}

pub after_turns-append : (at : Heard) (xs ys : List Turn) → after_turns at (xs ++ ys) ≡ after_turns (after_turns at xs) ys
after_turns-append at [] ys = refl
after_turns-append at (x ∷ xs) ys = after_turns-append (after_turn at x) xs ys

pub after_turns-line : (at : Heard) (xs : List Turn) → (after_turns at xs).line ≡ at.line
after_turns-line at [] = refl
after_turns-line at (x ∷ xs) = after_turns-line (after_turn at x) xs

pub after_turns-opening : (at : Heard) (xs : List Turn) → (after_turns at xs).opening ≡ at.opening
after_turns-opening at [] = refl
after_turns-opening at (x ∷ xs) = after_turns-opening (after_turn at x) xs

pub posts_in-append : (xs ys : List Turn) → posts_in (xs ++ ys) ≡ posts_in xs ++ posts_in ys
posts_in-append xs ys = flat_map-append (λ (turn : Turn). option_to_list turn.post) xs ys

pub answers_in-append : (xs ys : List Turn) → answers_in (xs ++ ys) ≡ answers_in xs ++ answers_in ys
answers_in-append xs ys = flat_map-append (λ (turn : Turn). turn.answer) xs ys

-- a message that closes the line is the last that is heard
turns_by-stops : (heard : Heard → List ℕ → Turn) (at : Heard) (x : List ℕ) (xs : List (List ℕ)) → (heard at x).closes ≡ true → turns_by heard at (x ∷ xs) ≡ heard at x ∷ []
turns_by-stops heard at x xs e = rw e refl

turns_by-goes : (heard : Heard → List ℕ → Turn) (at : Heard) (x : List ℕ) (xs : List (List ℕ)) → (heard at x).closes ≡ false
    → turns_by heard at (x ∷ xs) ≡ heard at x ∷ turns_by heard (after_turn at (heard at x)) xs
turns_by-goes heard at x xs e = rw e refl

-- Where no message closes the line, the next ones go on from there.
pub turns_by-append : (heard : Heard → List ℕ → Turn) (at : Heard) (xs ys : List (List ℕ)) → list_any does_close (turns_by heard at xs) ≡ false
    → turns_by heard at (xs ++ ys) ≡ turns_by heard at xs ++ turns_by heard (after_turns at (turns_by heard at xs)) ys
turns_by-append heard at [] ys unclosed = refl
turns_by-append heard at (x ∷ xs) ys unclosed = by (turns_by-append heard (after_turn at (heard at x)) xs ys) (heard at x).closes refl
  where
    then : Heard
    then = after_turn at (heard at x)

    by : (list_any does_close (turns_by heard then xs) ≡ false → turns_by heard then (xs ++ ys) ≡ turns_by heard then xs ++ turns_by heard (after_turns then (turns_by heard then xs)) ys)
        → (b : Bool) → (heard at x).closes ≡ b
        → turns_by heard at (x ∷ (xs ++ ys)) ≡ turns_by heard at (x ∷ xs) ++ turns_by heard (after_turns at (turns_by heard at (x ∷ xs))) ys
    by later true e =
        let h : (true || list_any does_close []) ≡ false = subst (λ (b : Bool). (b || list_any does_close []) ≡ false) e (subst (λ (zs : List Turn). list_any does_close zs ≡ false) (turns_by-stops heard at x xs e) unclosed) in
        absurd cc
    by later false e =
        let rest = turns_by heard then xs in
        let h : (false || list_any does_close rest) ≡ false = subst (λ (b : Bool). (b || list_any does_close rest) ≡ false) e (subst (λ (zs : List Turn). list_any does_close zs ≡ false) (turns_by-goes heard at x xs e) unclosed) in
        let p = turns_by-goes heard at x (xs ++ ys) e in
        let q = turns_by-goes heard at x xs e in
        let r = later h in
        let start : turns_by heard at (x ∷ (xs ++ ys)) ≡ (heard at x ∷ rest) ++ turns_by heard (after_turns at (heard at x ∷ rest)) ys = p ∙ ap (λ (zs : List Turn). heard at x ∷ zs) r in
        start ∙ sym (ap (λ (zs : List Turn). zs ++ turns_by heard (after_turns at zs) ys) q)

-- Where one closes it, nothing behind it is heard.
pub turns_by-closed : (heard : Heard → List ℕ → Turn) (at : Heard) (xs ys : List (List ℕ)) → list_any does_close (turns_by heard at xs) ≡ true
    → turns_by heard at (xs ++ ys) ≡ turns_by heard at xs
turns_by-closed heard at [] ys closed = absurd cc
turns_by-closed heard at (x ∷ xs) ys closed = by (turns_by-closed heard (after_turn at (heard at x)) xs ys) (heard at x).closes refl
  where
    then : Heard
    then = after_turn at (heard at x)

    by : (list_any does_close (turns_by heard then xs) ≡ true → turns_by heard then (xs ++ ys) ≡ turns_by heard then xs)
        → (b : Bool) → (heard at x).closes ≡ b
        → turns_by heard at (x ∷ (xs ++ ys)) ≡ turns_by heard at (x ∷ xs)
    by later true e = turns_by-stops heard at x (xs ++ ys) e ∙ sym (turns_by-stops heard at x xs e)
    by later false e =
        let rest = turns_by heard then xs in
        let h : (false || list_any does_close rest) ≡ true = subst (λ (b : Bool). (b || list_any does_close rest) ≡ true) e (subst (λ (zs : List Turn). list_any does_close zs ≡ true) (turns_by-goes heard at x xs e) closed) in
        turns_by-goes heard at x (xs ++ ys) e ∙ ap (λ (zs : List Turn). heard at x ∷ zs) (later h) ∙ sym (turns_by-goes heard at x xs e)
