-- The least number that passes a test.
use Rattle.std.proofs.Common.{◌≡◌, ◌∙◌, ◌+◌, ◌-◌, ◌<◌, ℕ, zero, suc, Bool, true, false, List, Option, None, Some, ap, arith, refl, sym, zero-add}
use Rattle.std.specs.Prelude.{cond, find}
use Rattle.std.specs.Prelude.{not}
use Rattle.std.specs.List.{range_with_len}
use Rattle.bench_desk.specs.Desks.{DeskView}
use Rattle.bench_live.specs.Ended.{is_among, missing}

some_none : (found : Option ℕ) (n : ℕ) → found ≡ Some n → found ≡ None → ⊥
some_none found n some none = cc

-- the first is not it, and nor is another
past : (b : Bool) (n : ℕ) (rest : Option ℕ) → cond b (Some n) rest ≡ None → (b ≡ false) × (rest ≡ None)
past true n rest none = absurd (some_none (Some n) n refl none)
past false n rest none = (refl, none)

-- it is no number of the first, so it is looked for behind them
found-from : (p : ℕ → Bool) (a n m : ℕ) → find p (range_with_len a n) ≡ None
    → find p (range_with_len a (n + m)) ≡ find p (range_with_len (a + n) m)
found-from p a zero m none =
    let e : 0 + m ≡ m = omega arith in
    let f : a + 0 ≡ a = omega arith in
    ap (λ k. find p (range_with_len a k)) e ∙ ap (λ b. find p (range_with_len b m)) (sym f)
found-from p a (suc n) m none =
    let e : suc n + m ≡ suc (n + m) = omega arith in
    let f : a + 1 + n ≡ a + suc n = omega arith in
    let split = past (p a) a (find p (range_with_len (a + 1) n)) none in
    ap (λ k. find p (range_with_len a k)) e ∙ ap (λ b. cond b (Some a) (find p (range_with_len (a + 1) (n + m)))) split.0
    ∙ found-from p (a + 1) n m split.1 ∙ ap (λ b. find p (range_with_len b m)) f

-- nor is it the next
none-more : (p : ℕ → Bool) (n : ℕ) → find p (range_with_len 0 n) ≡ None → p n ≡ false → find p (range_with_len 0 (n + 1)) ≡ None
none-more p n none here =
    found-from p 0 n 1 none ∙ ap (λ k. find p (range_with_len k 1)) (zero-add n) ∙ ap (λ b. cond b (Some n) None) here

-- it is the next
found-at : (p : ℕ → Bool) (n count : ℕ) → find p (range_with_len 0 n) ≡ None → n < count → p n ≡ true
    → find p (range_with_len 0 count) ≡ Some n
found-at p n count none less here =
    let rest = count - (n + 1) in
    let e : count ≡ n + suc rest = omega (arith, less) in
    ap (λ k. find p (range_with_len 0 k)) e ∙ found-from p 0 n (suc rest) none ∙ ap (λ k. find p (range_with_len k (suc rest))) (zero-add n)
    ∙ ap (λ b. cond b (Some n) (find p (range_with_len (n + 1) rest))) here

-- a desk that is among those handed in is not missing; one that is not is the least missing
pub not-missing : {D : Type 0} (view : D → DeskView) (desks : List D) (n : ℕ) (r : Bool) → r ≡ is_among view desks n → r ≡ true
    → find (λ k. not (is_among view desks k)) (range_with_len 0 n) ≡ None
    → find (λ k. not (is_among view desks k)) (range_with_len 0 (n + 1)) ≡ None
not-missing view desks n r is met none = none-more (λ k. not (is_among view desks k)) n none (ap not (sym is ∙ met))

pub is-missing : {D : Type 0} (view : D → DeskView) (desks : List D) (n count : ℕ) (r : Bool) → r ≡ is_among view desks n → r ≡ false
    → n < count → find (λ k. not (is_among view desks k)) (range_with_len 0 n) ≡ None → missing view count desks ≡ Some n
is-missing view desks n count r is met less none =
    found-at (λ k. not (is_among view desks k)) n count none less (ap not (sym is ∙ met))
