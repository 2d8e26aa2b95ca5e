-- What one more entry does to the reservations that pass a test.
use Rattle.std.proofs.Common.{◌≡◌, ◌≤◌, ℕ, ◌+◌, List, [], ◌∷◌, ◌++◌, Bool, true, false, true≢false, refl, sym, ◌∙◌, ap, subst, arith, append_assoc}
use Rattle.std.specs.Prelude.{◌==◌, if◌then◌else◌, ◌&&◌}
use Rattle.std.specs.List.{list_any}
use Rattle.std.proofs.lemmas.List.{append-nil}
use Rattle.std.proofs.lemmas.Bool.Decides.{nat_tests, Decides-eqb}
use Rattle.acct_totals.specs.declared.op.Op.{Op}
use Rattle.acct_totals.specs.declared.op.Op.TheVariants.{Reserve, Debit, Release, Charge, Refund}
use Rattle.acct_totals.specs.declared.op.Outcome.{Outcome}
use Rattle.acct_totals.specs.declared.op.Booked.{Booked}
use Rattle.acct_totals.specs.Amounts.{amount_of}
use Rattle.acct_book.specs.Sums.{own, left_where, reserved_where, ends, is_same, is_ended}
use Rattle.acct_book.specs.Book.{own_of}
use Rattle.acct_totals.specs.Kept.{reserved_after}
use Rattle.acct_book.proofs.OwnSums.{own-push_end, own-push_more, own-none, any-push_no, any-push_yes, end_reserves_none}

pub eq_from : (m n : ℕ) → (m == n) ≡ true → m ≡ n
eq_from m n h = (Decides-eqb m n).0 h

pub eq_same : (n : ℕ) → (n == n) ≡ true
eq_same n = grind (arith, nat_tests)

pub eq_flip : (m n : ℕ) → (m == n) ≡ (n == m)
eq_flip m n = grind (arith, nat_tests)

pub and_parts : (p q : Bool) → (p && q) ≡ true → (p ≡ true) × (q ≡ true)
and_parts true q h = (refl, h)
and_parts false q h = absurd (true≢false (sym h))

and_true : (p : Bool) → (p && true) ≡ p
and_true true = refl
and_true false = refl

and_false : (p : Bool) → (p && false) ≡ false
and_false true = refl
and_false false = refl

-- one account, session and group, by a test
pub record IsOne (a s g t u v : ℕ) : Type 0 where
  pub account : t ≡ a
  pub session : u ≡ s
  pub group : v ≡ g

pub same_from : (a s g t u v : ℕ) → is_same a s g t u v ≡ true → IsOne a s g t u v
same_from a s g t u v h =
    let p = and_parts (t == a) ((u == s) && (v == g)) h in
    let q = and_parts (u == s) (v == g) p.1 in
    record { account = eq_from t a p.0; session = eq_from u s q.0; group = eq_from v g q.1 }

pub zero_if : (b : Bool) → (let z : ℕ = 0 in if b then z else z) ≡ (let z : ℕ = 0 in z)
zero_if true = refl
zero_if false = refl

-- the tests of accounts, sessions and groups
abbrev pub Test : Type 0
Test = ℕ → ℕ → ℕ → Bool

-- one test, one sum
pub left_where-same : (p q : Test) → ((t u v : ℕ) → p t u v ≡ q t u v) → (xs : List Booked) → left_where p xs ≡ left_where q xs
left_where-same p q h xs = λ i. left_where (λ t u v. h t u v i) xs

none_passes : (op : Op) (o : Outcome) → reserved_where (λ t u v. false) (record { op = op; outcome = o }) ≡ 0
none_passes (Reserve a s g n) o = refl
none_passes (Debit a s g n) o = refl
none_passes (Release a s) o = refl
none_passes (Charge a n) o = refl
none_passes (Refund a n) o = refl

left_where-never : (xs : List Booked) → left_where (λ t u v. false) xs ≡ 0
unfolding left_where
left_where-never [] = refl
left_where-never (x ∷ xs) = rw (none_passes x.op x.outcome, zero_if (is_ended x.op xs), left_where-never xs) refl

-- where nothing passes the sum is 0
pub left_where-none : (p : Test) → ((t u v : ℕ) → p t u v ≡ false) → (xs : List Booked) → left_where p xs ≡ 0
left_where-none p h xs = left_where-same p (λ t u v. false) h xs ∙ left_where-never xs

module _ (p : Test) (b : Booked) where
  -- at a Reserve: one that the new entry ends, or another
  at_reserve : (t u v amount : ℕ) (xs : List Booked) (e : Bool) → ends t u v b.op ≡ e
      → (if list_any (λ (y : Booked). ends t u v y.op) (xs ++ b ∷ []) then 0 else (if p t u v then amount else 0))
      + (if list_any (λ (y : Booked). ends t u v y.op) xs then 0 else (if p t u v && e then amount else 0))
      ≡ (if list_any (λ (y : Booked). ends t u v y.op) xs then 0 else (if p t u v then amount else 0))
  at_reserve t u v amount xs true is = rw (any-push_yes (λ (y : Booked). ends t u v y.op) xs b is, and_true (p t u v)) (omega arith)
  at_reserve t u v amount xs false is =
      rw (any-push_no (λ (y : Booked). ends t u v y.op) xs b is, and_false (p t u v), zero_if (list_any (λ (y : Booked). ends t u v y.op) xs)) (omega arith)

  at_op : (op : Op) (o : Outcome) (xs : List Booked)
      → (if is_ended op (xs ++ b ∷ []) then 0 else reserved_where p (record { op = op; outcome = o }))
      + (if is_ended op xs then 0 else reserved_where (λ t u v. p t u v && ends t u v b.op) (record { op = op; outcome = o }))
      ≡ (if is_ended op xs then 0 else reserved_where p (record { op = op; outcome = o }))
  at_op (Reserve t u v n) o xs = at_reserve t u v (amount_of o) xs (ends t u v b.op) refl
  at_op (Debit t u v n) o xs = refl
  at_op (Release t u) o xs = refl
  at_op (Charge t n) o xs = refl
  at_op (Refund t n) o xs = refl

  alone : (op : Op) (o : Outcome) → (if is_ended op [] then 0 else reserved_where p (record { op = op; outcome = o })) ≡ reserved_where p (record { op = op; outcome = o })
  alone (Reserve t u v n) o = refl
  alone (Debit t u v n) o = refl
  alone (Release t u) o = refl
  alone (Charge t n) o = refl
  alone (Refund t n) o = refl

  -- one more entry adds what it reserves, and takes what it ends
  pub left_where-push : (xs : List Booked) → left_where p (xs ++ b ∷ []) + left_where (λ t u v. p t u v && ends t u v b.op) xs ≡ left_where p xs + reserved_where p b
  unfolding left_where
  left_where-push [] = rw (alone b.op b.outcome) (omega arith)
  left_where-push (x ∷ xs) = omega (arith, at_op x.op x.outcome xs, left_where-push xs)

-- a reservation is the sum of the Reserve amounts that nothing later ends
module _ (a s g : ℕ) where
  ending : (b : Booked) → ends a s g b.op ≡ true → (t u v : ℕ) → (is_same a s g t u v && ends t u v b.op) ≡ is_same a s g t u v
  ending b h t u v = by (is_same a s g t u v) refl
    where
      by : (c : Bool) → is_same a s g t u v ≡ c → (c && ends t u v b.op) ≡ c
      by true e = let one = same_from a s g t u v e in (λ i. ends (one.account i) (one.session i) (one.group i) b.op) ∙ h
      by false e = refl

  passing : (b : Booked) → ends a s g b.op ≡ false → (t u v : ℕ) → (is_same a s g t u v && ends t u v b.op) ≡ false
  passing b h t u v = by (is_same a s g t u v) refl
    where
      by : (c : Bool) → is_same a s g t u v ≡ c → (c && ends t u v b.op) ≡ false
      by true e = let one = same_from a s g t u v e in (λ i. ends (one.account i) (one.session i) (one.group i) b.op) ∙ h
      by false e = refl

  own-push : (past xs : List Booked) → own a s g past ≡ left_where (is_same a s g) past → own a s g (past ++ xs) ≡ left_where (is_same a s g) (past ++ xs)
  own-push past [] e = subst (λ (l : List Booked). own a s g l ≡ left_where (is_same a s g) l) (sym (append-nil past)) e
  own-push past (x ∷ xs) e =
      subst (λ (l : List Booked). own a s g l ≡ left_where (is_same a s g) l) (append_assoc past (x ∷ []) xs)
      (own-push (past ++ x ∷ []) xs (by (ends a s g x.op) refl))
    where
      by : (t : Bool) → ends a s g x.op ≡ t → own a s g (past ++ x ∷ []) ≡ left_where (is_same a s g) (past ++ x ∷ [])
      by true h =
          own-push_end a s g past x h
          ∙ omega (arith, left_where-push (is_same a s g) x past, left_where-same (λ t u v. is_same a s g t u v && ends t u v x.op) (is_same a s g) (ending x h) past, end_reserves_none (is_same a s g) a s g x.op x.outcome h)
      by false h =
          own-push_more a s g past x h ∙ ap (λ n. n + reserved_where (is_same a s g) x) e
          ∙ omega (arith, left_where-push (is_same a s g) x past, left_where-none (λ t u v. is_same a s g t u v && ends t u v x.op) (passing x h) past)

  left_none : left_where (is_same a s g) [] ≡ 0
  unfolding left_where
  left_none = refl

  pub own-left : (xs : List Booked) → own a s g xs ≡ left_where (is_same a s g) xs
  own-left xs = own-push [] xs (own-none a s g ∙ sym left_none)

-- what a test says of the reservations that an operation is on
abbrev pub IsAt : Test → Op → Bool → Type 0
IsAt p (Reserve a s g n) c = p a s g ≡ c
IsAt p (Debit a s g n) c = p a s g ≡ c
IsAt p (Release a s) c = (g : ℕ) → p a s g ≡ c
IsAt p op c = Unit {0}

flip_same : (p : Test) (a s g : ℕ) → p a s g ≡ true → (t u v : ℕ) → (p t u v && is_same t u v a s g) ≡ is_same a s g t u v
flip_same p a s g h t u v = flip ∙ by (is_same a s g t u v) refl
  where
    flip : (p t u v && is_same t u v a s g) ≡ (p t u v && is_same a s g t u v)
    flip = rw (eq_flip t a, eq_flip u s, eq_flip v g) refl

    by : (c : Bool) → is_same a s g t u v ≡ c → (p t u v && c) ≡ c
    by true e = let one = same_from a s g t u v e in and_true (p t u v) ∙ (λ i. p (one.account i) (one.session i) (one.group i)) ∙ h
    by false e = and_false (p t u v)

module _ (p : Test) (xs : List Booked) (o : Outcome) where
  abbrev with_entry : Op → List Booked
  with_entry op = xs ++ (let b : Booked = record { op = op; outcome = o } in b) ∷ []

  -- the sum after an operation on reservations that pass: what it ends is part of the sum
  pub left_where-in : (op : Op) → IsAt p op true → left_where p (with_entry op) ≡ reserved_after (left_where p xs) (own_of op xs) op o
  left_where-in (Reserve a s g n) h =
      let b : Booked = record { op = Reserve a s g n; outcome = o } in
      let k : (if p a s g then amount_of o else 0) ≡ amount_of o = rw h refl in
      omega (arith, k, left_where-push p b xs, left_where-none (λ t u v. p t u v && false) (λ t u v. and_false (p t u v)) xs)
  left_where-in (Debit a s g n) h =
      let b : Booked = record { op = Debit a s g n; outcome = o } in
      omega (arith, left_where-push p b xs, left_where-same (λ t u v. p t u v && is_same t u v a s g) (is_same a s g) (flip_same p a s g h) xs, own-left a s g xs)
  left_where-in (Release a s) h =
      let b : Booked = record { op = Release a s; outcome = o } in
      omega (arith, left_where-push p b xs, left_where-same (λ t u v. p t u v && ((a == t) && (s == u))) (λ t u v. (t == a) && (u == s)) same xs)
    where
      same : (t u v : ℕ) → (p t u v && ((a == t) && (s == u))) ≡ ((t == a) && (u == s))
      same t u v = rw (eq_flip a t, eq_flip s u) (by ((t == a) && (u == s)) refl)
        where
          by : (c : Bool) → ((t == a) && (u == s)) ≡ c → (p t u v && c) ≡ c
          by true e =
              let both = and_parts (t == a) (u == s) e in
              and_true (p t u v) ∙ (λ i. p (eq_from t a both.0 i) (eq_from u s both.1 i) v) ∙ h v
          by false e = and_false (p t u v)
  left_where-in (Charge a n) h =
      let b : Booked = record { op = Charge a n; outcome = o } in
      omega (arith, left_where-push p b xs, left_where-none (λ t u v. p t u v && false) (λ t u v. and_false (p t u v)) xs)
  left_where-in (Refund a n) h =
      let b : Booked = record { op = Refund a n; outcome = o } in
      omega (arith, left_where-push p b xs, left_where-none (λ t u v. p t u v && false) (λ t u v. and_false (p t u v)) xs)

  -- and after one on others
  pub left_where-out : (op : Op) → IsAt p op false → left_where p (with_entry op) ≡ left_where p xs
  left_where-out (Reserve a s g n) h =
      let b : Booked = record { op = Reserve a s g n; outcome = o } in
      let k : (if p a s g then amount_of o else 0) ≡ 0 = rw h refl in
      omega (arith, k, left_where-push p b xs, left_where-none (λ t u v. p t u v && false) (λ t u v. and_false (p t u v)) xs)
  left_where-out (Debit a s g n) h =
      let b : Booked = record { op = Debit a s g n; outcome = o } in
      omega (arith, left_where-push p b xs, left_where-none (λ t u v. p t u v && is_same t u v a s g) apart xs)
    where
      apart : (t u v : ℕ) → (p t u v && is_same t u v a s g) ≡ false
      apart t u v = by (is_same t u v a s g) refl
        where
          by : (c : Bool) → is_same t u v a s g ≡ c → (p t u v && c) ≡ false
          by true e = let one = same_from t u v a s g e in and_true (p t u v) ∙ (λ i. p (sym one.account i) (sym one.session i) (sym one.group i)) ∙ h
          by false e = and_false (p t u v)
  left_where-out (Release a s) h =
      let b : Booked = record { op = Release a s; outcome = o } in
      omega (arith, left_where-push p b xs, left_where-none (λ t u v. p t u v && ((a == t) && (s == u))) apart xs)
    where
      apart : (t u v : ℕ) → (p t u v && ((a == t) && (s == u))) ≡ false
      apart t u v = by ((a == t) && (s == u)) refl
        where
          by : (c : Bool) → ((a == t) && (s == u)) ≡ c → (p t u v && c) ≡ false
          by true e =
              let both = and_parts (a == t) (s == u) e in
              and_true (p t u v) ∙ (λ i. p (sym (eq_from a t both.0) i) (sym (eq_from s u both.1) i) v) ∙ h v
          by false e = and_false (p t u v)
  left_where-out (Charge a n) h =
      let b : Booked = record { op = Charge a n; outcome = o } in
      omega (arith, left_where-push p b xs, left_where-none (λ t u v. p t u v && false) (λ t u v. and_false (p t u v)) xs)
  left_where-out (Refund a n) h =
      let b : Booked = record { op = Refund a n; outcome = o } in
      omega (arith, left_where-push p b xs, left_where-none (λ t u v. p t u v && false) (λ t u v. and_false (p t u v)) xs)

-- what is left of a part is part of what is left of the whole
pub left_where-le : (p q : Test) → ((t u v : ℕ) → p t u v ≡ true → q t u v ≡ true) → (xs : List Booked) → left_where p xs ≤ left_where q xs
unfolding left_where
left_where-le p q h [] = omega arith
left_where-le p q h (x ∷ xs) = by (is_ended x.op xs) (le x.op) (left_where-le p q h xs)
  where
    le : (op : Op) → reserved_where p (record { op = op; outcome = x.outcome }) ≤ reserved_where q (record { op = op; outcome = x.outcome })
    le (Reserve t u v n) = within (p t u v) (q t u v) (h t u v)
      where
        within : (c d : Bool) → (c ≡ true → d ≡ true) → (if c then amount_of x.outcome else 0) ≤ (if d then amount_of x.outcome else 0)
        within true true k = omega arith
        within true false k = absurd (true≢false (sym (k refl)))
        within false d k = omega arith
    le (Debit t u v n) = omega arith
    le (Release t u) = omega arith
    le (Charge t n) = omega arith
    le (Refund t n) = omega arith

    by : (c : Bool) → reserved_where p x ≤ reserved_where q x → left_where p xs ≤ left_where q xs
        → (if c then 0 else reserved_where p x) + left_where p xs ≤ (if c then 0 else reserved_where q x) + left_where q xs
    by true k m = omega (arith, m)
    by false k m = omega (arith, k, m)
