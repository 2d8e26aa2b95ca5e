-- What is reserved is the sum of the reservations.
use Rattle.std.proofs.Common.{◌≡◌, ℕ, ◌+◌, ◌*◌, List, [], ◌∷◌, Bool, true, false, not, true≢false, cond, filter, Option, None, Some, refl, sym, ◌∙◌, ap, subst, arith}
use Rattle.std.specs.Prelude.{◌==◌, ◌&&◌, ◌||◌, if◌then◌else◌, sum_by, count_by}
use Rattle.std.specs.List.{list_any, filter_map, cons_option}
use Rattle.std.proofs.lemmas.List.Sums.{sum_by-cons}
use Rattle.acct_totals.specs.declared.op.Op.{Op}
use Rattle.acct_totals.specs.declared.op.Op.TheVariants.{Reserve, Debit, Release, Charge, Refund}
use Rattle.acct_totals.specs.declared.op.Outcome.{Outcome}
use Rattle.acct_totals.specs.declared.op.Booked.{Booked}
use Rattle.acct_book.specs.declared.holder.Holder.{Holder}
use Rattle.acct_totals.specs.Amounts.{amount_of}
use Rattle.acct_book.specs.Sums.{own, left_where, is_same, is_ended, reserved_where}
use Rattle.acct_book.specs.Stored.{holder_eq}
use Rattle.acct_book.specs.Laws.{holder_where, distinct, sum_of_own, ReservedIsSumOfOwn, SessionIsSumOfOwn}
use Rattle.acct_book.proofs.LeftSums.{own-left}
use Rattle.acct_book.proofs.StoredLemmas.{holder_from, holder_same}

sum_by-same : {X : Type 0} (f h : X → ℕ) → ((x : X) → f x ≡ h x) → (xs : List X) → sum_by f xs ≡ sum_by h xs
sum_by-same f h e [] = refl
sum_by-same f h e (x ∷ xs) = sum_by-cons f x xs ∙ (λ i. e x i + sum_by-same f h e xs i) ∙ sym (sum_by-cons h x xs)

sum_by-plus : {X : Type 0} (f h : X → ℕ) (xs : List X) → sum_by (λ x. f x + h x) xs ≡ sum_by f xs + sum_by h xs
sum_by-plus f h [] = refl
sum_by-plus f h (x ∷ xs) = omega (arith, sum_by-plus f h xs, sum_by-cons f x xs, sum_by-cons h x xs, sum_by-cons (λ x. f x + h x) x xs)

sum_by-zero : {X : Type 0} (f : X → ℕ) → ((x : X) → f x ≡ 0) → (xs : List X) → sum_by f xs ≡ 0
sum_by-zero f e [] = refl
sum_by-zero f e (x ∷ xs) = omega (arith, sum_by-zero f e xs, sum_by-cons f x xs, e x)

count-cons : (q p : Holder) (ps : List Holder) → count_by (holder_eq q) (p ∷ ps) ≡ cond (holder_eq q p) 1 0 + count_by (holder_eq q) ps
count-cons q p ps = sum_by-cons (λ r. cond (holder_eq q r) 1 0) p ps

-- a sum of one number at a holder and nothing at all others
sum_by-at : (q : Holder) (n : ℕ) (ps : List Holder) → sum_by (λ p. if holder_eq q p then n else 0) ps ≡ n * count_by (holder_eq q) ps
sum_by-at q n [] = omega arith
sum_by-at q n (p ∷ ps) =
    sum_by-cons (λ r. if holder_eq q r then n else 0) p ps ∙ by (holder_eq q p) (sum_by-at q n ps) ∙ ap (λ m. n * m) (sym (count-cons q p ps))
  where
    by : (b : Bool) → sum_by (λ p. if holder_eq q p then n else 0) ps ≡ n * count_by (holder_eq q) ps
        → (if b then n else 0) + sum_by (λ p. if holder_eq q p then n else 0) ps ≡ n * (cond b 1 0 + count_by (holder_eq q) ps)
    by true h = omega (arith, h)
    by false h = omega (arith, h)

-- none is left of a holder that is filtered out
count-without : (p : Holder) (ps : List Holder) → count_by (holder_eq p) (filter (λ r. not (holder_eq p r)) ps) ≡ 0
count-without p [] = refl
count-without p (r ∷ ps) = by (holder_eq p r) refl (count-without p ps)
  where
    by : (b : Bool) → holder_eq p r ≡ b → count_by (holder_eq p) (filter (λ t. not (holder_eq p t)) ps) ≡ 0
        → count_by (holder_eq p) (cond (not b) (r ∷ filter (λ t. not (holder_eq p t)) ps) (filter (λ t. not (holder_eq p t)) ps)) ≡ 0
    by true e h = h
    by false e h = count-cons p r (filter (λ t. not (holder_eq p t)) ps) ∙ ap (λ b. cond b 1 0 + count_by (holder_eq p) (filter (λ t. not (holder_eq p t)) ps)) e ∙ omega (arith, h)

-- as many are left of another
count-others : (q p : Holder) → holder_eq q p ≡ false → (ps : List Holder) → count_by (holder_eq q) (filter (λ r. not (holder_eq p r)) ps) ≡ count_by (holder_eq q) ps
count-others q p ne [] = refl
count-others q p ne (r ∷ ps) = by (holder_eq p r) refl (count-others q p ne ps) ∙ sym (count-cons q r ps)
  where
    by : (b : Bool) → holder_eq p r ≡ b → count_by (holder_eq q) (filter (λ t. not (holder_eq p t)) ps) ≡ count_by (holder_eq q) ps
        → count_by (holder_eq q) (cond (not b) (r ∷ filter (λ t. not (holder_eq p t)) ps) (filter (λ t. not (holder_eq p t)) ps)) ≡ cond (holder_eq q r) 1 0 + count_by (holder_eq q) ps
    by true e h =
        let no : holder_eq q r ≡ false = subst (λ t. holder_eq q t ≡ false) (holder_from p r e) ne in
        h ∙ sym (ap (λ b. cond b 1 0 + count_by (holder_eq q) ps) no ∙ omega arith)
    by false e h = count-cons q r (filter (λ t. not (holder_eq p t)) ps) ∙ ap (λ m. cond (holder_eq q r) 1 0 + m) h

-- each holder stands once
count-distinct : (q : Holder) (ps : List Holder) → list_any (holder_eq q) ps ≡ true → count_by (holder_eq q) (distinct ps) ≡ 1
count-distinct q [] h = absurd (true≢false (sym h))
count-distinct q (p ∷ ps) h = count-cons q p (filter (λ r. not (holder_eq p r)) (distinct ps)) ∙ by (holder_eq q p) refl h (count-distinct q ps)
  where
    by : (b : Bool) → holder_eq q p ≡ b → (b || list_any (holder_eq q) ps) ≡ true → (list_any (holder_eq q) ps ≡ true → count_by (holder_eq q) (distinct ps) ≡ 1)
        → cond b 1 0 + count_by (holder_eq q) (filter (λ r. not (holder_eq p r)) (distinct ps)) ≡ 1
    by true e k rest =
        let none : count_by (holder_eq q) (filter (λ r. not (holder_eq p r)) (distinct ps)) ≡ 0 = subst (λ t. count_by (holder_eq t) (filter (λ r. not (holder_eq p r)) (distinct ps)) ≡ 0) (sym (holder_from q p e)) (count-without p (distinct ps)) in
        omega (arith, none)
    by false e k rest = omega (arith, count-others q p e (distinct ps), rest k)

-- one that doesn't stand in a list doesn't stand in it once
count-absent : (q : Holder) (hs : List Holder) → list_any (holder_eq q) hs ≡ false → count_by (holder_eq q) (distinct hs) ≡ 0
count-absent q [] h = refl
count-absent q (p ∷ hs) h = count-cons q p (filter (λ r. not (holder_eq p r)) (distinct hs)) ∙ by (holder_eq q p) refl h (count-absent q hs)
  where
    by : (b : Bool) → holder_eq q p ≡ b → (b || list_any (holder_eq q) hs) ≡ false → (list_any (holder_eq q) hs ≡ false → count_by (holder_eq q) (distinct hs) ≡ 0)
        → cond b 1 0 + count_by (holder_eq q) (filter (λ r. not (holder_eq p r)) (distinct hs)) ≡ 0
    by true e k rest = absurd (true≢false k)
    by false e k rest = omega (arith, count-others q p e (distinct hs), rest k)

module _ (test : ℕ → ℕ → ℕ → Bool) where
  -- a holder that doesn't pass isn't named
  never_named : (q : Holder) → test q.account q.session q.group ≡ false → (xs : List Booked) → list_any (holder_eq q) (filter_map (holder_where test) xs) ≡ false
  never_named q h [] = refl
  never_named q h (x ∷ xs) = by x.op (never_named q h xs)
    where
      at : (a s g : ℕ) (b : Bool) → test a s g ≡ b → list_any (holder_eq q) (filter_map (holder_where test) xs) ≡ false
          → list_any (holder_eq q) (cons_option (if b then Some (record { account = a; session = s; group = g }) else None) (filter_map (holder_where test) xs)) ≡ false
      at a s g true e rest = differ (holder_eq q (record { account = a; session = s; group = g })) refl
        where
          differ : (c : Bool) → holder_eq q (record { account = a; session = s; group = g }) ≡ c → (c || list_any (holder_eq q) (filter_map (holder_where test) xs)) ≡ false
          differ true same = absurd (true≢false (sym e ∙ ap (λ (r : Holder). test r.account r.session r.group) (sym (holder_from q (record { account = a; session = s; group = g }) same)) ∙ h))
          differ false same = rest
      at a s g false e rest = rest

      by : (op : Op) → list_any (holder_eq q) (filter_map (holder_where test) xs) ≡ false
          → list_any (holder_eq q) (cons_option (holder_where test (record { op = op; outcome = x.outcome })) (filter_map (holder_where test) xs)) ≡ false
      by (Reserve a s g n) rest = at a s g (test a s g) refl rest
      by (Debit a s g n) rest = rest
      by (Release a s) rest = rest
      by (Charge a n) rest = rest
      by (Refund a n) rest = rest

module _ (test : ℕ → ℕ → ℕ → Bool) (hs : List Holder) (others : (q : Holder) → test q.account q.session q.group ≡ false → count_by (holder_eq q) hs ≡ 0) where
  -- what an entry adds to the reservations that stand in the list, where its own stands there once
  entry-sum : (op : Op) (o : Outcome) → ((q : Holder) → holder_where test (record { op = op; outcome = o }) ≡ Some q → count_by (holder_eq q) hs ≡ 1)
      → sum_by (λ (h : Holder). reserved_where (is_same h.account h.session h.group) (record { op = op; outcome = o })) hs ≡ reserved_where test (record { op = op; outcome = o })
  entry-sum (Reserve a s g n) o once = sum_by-at q (amount_of o) hs ∙ by (test a s g) refl once
    where
      q : Holder
      q = record { account = a; session = s; group = g }

      by : (c : Bool) → test a s g ≡ c → ((r : Holder) → (if c then (let m : Option Holder = Some (record { account = a; session = s; group = g }) in m) else None) ≡ Some r → count_by (holder_eq r) hs ≡ 1)
          → amount_of o * count_by (holder_eq (record { account = a; session = s; group = g })) hs ≡ (if c then amount_of o else 0)
      by true e one = ap (λ m. amount_of o * m) (one (record { account = a; session = s; group = g }) refl) ∙ omega arith
      by false e one = ap (λ m. amount_of o * m) (others (record { account = a; session = s; group = g }) e) ∙ omega arith
  entry-sum (Debit a s g n) o once = sum_by-zero (λ (h : Holder). 0) (λ h. refl) hs
  entry-sum (Release a s) o once = sum_by-zero (λ (h : Holder). 0) (λ h. refl) hs
  entry-sum (Charge a n) o once = sum_by-zero (λ (h : Holder). 0) (λ h. refl) hs
  entry-sum (Refund a n) o once = sum_by-zero (λ (h : Holder). 0) (λ h. refl) hs

  unless : (ended : Bool) (f : Holder → ℕ) (total : ℕ) → sum_by f hs ≡ total → sum_by (λ h. if ended then 0 else f h) hs ≡ (if ended then 0 else total)
  unless true f total e = sum_by-zero (λ (h : Holder). 0) (λ h. refl) hs
  unless false f total e = e

  first_named : (q : Holder) (m : Option Holder) (rest : List Holder) → m ≡ Some q → list_any (holder_eq q) (cons_option m rest) ≡ true
  first_named q m rest e = subst (λ (k : Option Holder). list_any (holder_eq q) (cons_option k rest) ≡ true) (sym e) (ap (λ b. b || list_any (holder_eq q) rest) (holder_same q))

  later_named : (q : Holder) (m : Option Holder) (rest : List Holder) → list_any (holder_eq q) rest ≡ true → list_any (holder_eq q) (cons_option m rest) ≡ true
  later_named q None rest h = h
  later_named q (Some p) rest h = ap (λ b. holder_eq q p || b) h ∙ or_true (holder_eq q p)
    where
      or_true : (b : Bool) → (b || true) ≡ true
      or_true true = refl
      or_true false = refl

  -- over any list in which each holder of a Reserve that passes stands once, and no other
  sum-left : (xs : List Booked) → ((q : Holder) → list_any (holder_eq q) (filter_map (holder_where test) xs) ≡ true → count_by (holder_eq q) hs ≡ 1)
      → sum_by (λ (h : Holder). left_where (is_same h.account h.session h.group) xs) hs ≡ left_where test xs
  unfolding left_where
  sum-left [] once = sum_by-zero (λ (h : Holder). 0) (λ h. refl) hs
  sum-left (x ∷ xs) once =
      sum_by-plus (λ (h : Holder). if is_ended x.op xs then 0 else reserved_where (is_same h.account h.session h.group) x) (λ (h : Holder). left_where (is_same h.account h.session h.group) xs) hs
      ∙ (λ i. unless (is_ended x.op xs) (λ (h : Holder). reserved_where (is_same h.account h.session h.group) x) (reserved_where test x)
      (entry-sum x.op x.outcome (λ q e. once q (first_named q (holder_where test x) (filter_map (holder_where test) xs) e))) i
      + sum-left xs (λ q h. once q (later_named q (holder_where test x) (filter_map (holder_where test) xs) h)) i)

-- the reservations that pass a test are the sum of these, each once
left-sum_of_own : (test : ℕ → ℕ → ℕ → Bool) (journal : List Booked) → left_where test journal ≡ sum_of_own test journal
left-sum_of_own test journal =
    let hs : List Holder = distinct (filter_map (holder_where test) journal) in
    sym (sum_by-same (λ (h : Holder). own h.account h.session h.group journal) (λ (h : Holder). left_where (is_same h.account h.session h.group) journal) (λ h. own-left h.account h.session h.group journal) (distinct (filter_map (holder_where test) journal))
    ∙ sum-left test (distinct (filter_map (holder_where test) journal))
    (λ q no. count-absent q (filter_map (holder_where test) journal) (never_named test q no journal)) journal
    (λ q h. count-distinct q (filter_map (holder_where test) journal) h))

pub reserved-sum_of_own : ReservedIsSumOfOwn
reserved-sum_of_own a journal = left-sum_of_own (λ t u v. t == a) journal

pub session-sum_of_own : SessionIsSumOfOwn
session-sum_of_own a s journal = left-sum_of_own (λ t u v. (t == a) && (u == s)) journal
