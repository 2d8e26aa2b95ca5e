-- The function that compares two lists of octets says what the relation says.
use Rattle.std.proofs.Common.{◌≡◌, ℕ, zero, suc, ◌<◌, ◌≤◌, Bool, true, false, List, [], ◌∷◌, length, cond, refl, sym, ap, arith, ◌↔◌, IsTrue, nat_lt, nat_eq}
use Rattle.std.specs.Prelude.{slice_index, if◌then◌else◌}
use Rattle.std.proofs.lemmas.Bool.{eqb-true, eq-eqb, lt-ltb, ltb-true}
use Rattle.peer_rules.specs.Election.{IsGreater, IsGreaterAt, lowered}
use Rattle.line_message.specs.Greater.{is_greater}
use Rattle.line_message.specs.Heard.{wins}

-- behind a first octet that both have
agrees_further : (x y : ℕ) (xs ys : List ℕ) (p : ℕ) → x ≡ y → ((i : ℕ) → i < p → slice_index xs i ≡ slice_index ys i) → (i : ℕ) → i < suc p → slice_index (x ∷ xs) i ≡ slice_index (y ∷ ys) i
agrees_further x y xs ys p e agree zero l = e
agrees_further x y xs ys p e agree (suc i) l = agree i (omega arith)

further : (x y : ℕ) (xs ys : List ℕ) → x ≡ y → IsGreater xs ys → IsGreater (x ∷ xs) (y ∷ ys)
further x y xs ys e (p, g) =
    let w : p < length xs = g.within in
    let r : p ≤ length ys = g.reached in (
      suc p,
      record {
        agree = agrees_further x y xs ys p e g.agree;
        within = omega arith;
        reached = omega arith;
        greater = λ l. g.greater (omega arith);
      },
    )

-- and in front of it
nearer : (x y : ℕ) (xs ys : List ℕ) (p : ℕ) → IsGreaterAt (suc p) (x ∷ xs) (y ∷ ys) → IsGreaterAt p xs ys
nearer x y xs ys p g =
    let w : suc p < length (x ∷ xs) = g.within in
    let r : suc p ≤ length (y ∷ ys) = g.reached in
    record {
      agree = λ i l. g.agree (suc i) (omega arith);
      within = omega arith;
      reached = omega arith;
      greater = λ l. g.greater (omega arith);
    }

front : (x y : ℕ) (xs ys : List ℕ) → y < x → IsGreater (x ∷ xs) (y ∷ ys)
front x y xs ys less = (0, record { agree = λ i l. absurd (omega arith); within = omega arith; reached = omega arith; greater = λ l. less })

behind : (x : ℕ) (xs : List ℕ) → IsGreater (x ∷ xs) []
behind x xs = (0, record { agree = λ i l. absurd (omega arith); within = omega arith; reached = omega arith; greater = λ l. absurd (omega arith) })

gives_by : (x y : ℕ) (xs ys : List ℕ) (b : Bool) → nat_eq x y ≡ b → (is_greater xs ys ≡ true → IsGreater xs ys) → cond b (is_greater xs ys) (nat_lt y x) ≡ true → IsGreater (x ∷ xs) (y ∷ ys)
gives_by x y xs ys true e later is = further x y xs ys (eqb-true x y e) (later is)
gives_by x y xs ys false e later is = front x y xs ys (ltb-true y x is)

gives : (xs ys : List ℕ) → is_greater xs ys ≡ true → IsGreater xs ys
gives [] ys e = absurd cc
gives (x ∷ xs) [] e = behind x xs
gives (x ∷ xs) (y ∷ ys) e = gives_by x y xs ys (nat_eq x y) refl (gives xs ys) e

front_by : (x y : ℕ) (xs ys : List ℕ) (b : Bool) → nat_eq x y ≡ b → y < x → cond b (is_greater xs ys) (nat_lt y x) ≡ true
front_by x y xs ys true e less = let same : x ≡ y = eqb-true x y e in absurd (omega arith)
front_by x y xs ys false e less = lt-ltb y x less

given : (xs ys : List ℕ) (p : ℕ) → IsGreaterAt p xs ys → is_greater xs ys ≡ true
given [] ys p g = let w : p < 0 = g.within in absurd (omega arith)
given (x ∷ xs) [] p g = refl
given (x ∷ xs) (y ∷ ys) zero g = front_by x y xs ys (nat_eq x y) refl (g.greater (omega arith))
given (x ∷ xs) (y ∷ ys) (suc p) g =
    let same : x ≡ y = g.agree 0 (omega arith) in
    rw (eq-eqb x y same) (given xs ys p (nearer x y xs ys p g))

not_by : (xs ys : List ℕ) (b : Bool) → is_greater xs ys ≡ b → (IsGreater xs ys → IsTrue false) → false ≡ b
not_by xs ys true e h = let no : IsTrue false = h (gives xs ys e) in absurd cc
not_by xs ys false e h = refl

-- an election's answer is the function's
is_greater_is : (xs ys : List ℕ) (b : Bool) → IsTrue b ↔ IsGreater xs ys → b ≡ is_greater xs ys
is_greater_is xs ys true h = let g : IsGreater xs ys = h.0 refl in sym (given xs ys g.0 g.1)
is_greater_is xs ys false h = not_by xs ys (is_greater xs ys) refl h.1

pub won : (local remote : List ℕ) (b : Bool) → IsTrue b ↔ IsGreater (lowered local) (lowered remote) → (if b then 1 else 0) ≡ wins local remote
unfolding wins
won local remote b h = ap (λ (w : Bool). if w then 1 else 0) (is_greater_is (lowered local) (lowered remote) b h)
