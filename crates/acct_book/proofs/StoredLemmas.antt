-- What an operation does to what is stored, and that it can be put back.
use Rattle.std.proofs.Common.{◌≡◌, ◌≤◌, ◌<◌, ℕ, ◌+◌, ◌-◌, List, [], ◌∷◌, ◌++◌, Bool, true, false, true≢false, cond, length, Option, None, Some, refl, sym, ◌∙◌, ap, subst, arith, length-append}
use Rattle.std.specs.Prelude.{◌==◌, ◌&&◌, nat_lt, if◌then◌else◌, IsSome}
use Rattle.std.proofs.lemmas.Bool.Decides.{nat_tests}
use Rattle.acct_totals.specs.declared.op.Op.{Op}
use Rattle.acct_totals.specs.declared.op.Op.TheVariants.{Reserve, Debit, Release, Charge, Refund}
use Rattle.acct_totals.specs.declared.op.Outcome.{Outcome}
use Rattle.acct_totals.specs.declared.op.Booked.{Booked}
use Rattle.acct_book.specs.declared.holder.Holder.{Holder}
use Rattle.acct_book.specs.declared.holder.Session.{Session}
use Rattle.acct_book.specs.declared.holds.Held.{Held}
use Rattle.acct_book.specs.declared.holds.Rounds.{Rounds}
use Rattle.acct_book.specs.declared.holds.Before.{Before}
use Rattle.acct_totals.specs.Amounts.{amount_of}
use Rattle.acct_book.specs.Sums.{own, own_all}
use Rattle.acct_book.specs.Stored.{Stored, holder_eq, session_eq, session_of, standing, standing_in, with_held, with_rounds, step_of, undone}
use Rattle.acct_book.specs.Ledger.{IsStored, IsMarked}
use Rattle.acct_book.proofs.OwnSums.{own-push_end, own-push_more}
use Rattle.acct_book.proofs.LeftSums.{eq_from, eq_same, and_parts, zero_if, left_where-in, left_where-out}
use Rattle.acct_book.proofs.Pushed.{entry, own-le-own_all}

-- one holder, and one session, by the tests
pub holder_from : (h k : Holder) → holder_eq h k ≡ true → h ≡ k
holder_from h k e =
    let p = and_parts (h.account == k.account) ((h.session == k.session) && (h.group == k.group)) e in
    let q = and_parts (h.session == k.session) (h.group == k.group) p.1 in
    (λ i. record { account = eq_from h.account k.account p.0 i; session = eq_from h.session k.session q.0 i; group = eq_from h.group k.group q.1 i })

pub session_from : (s t : Session) → session_eq s t ≡ true → s ≡ t
session_from s t e =
    let p = and_parts (s.account == t.account) (s.session == t.session) e in
    (λ i. record { account = eq_from s.account t.account p.0 i; session = eq_from s.session t.session p.1 i })

pub holder_same : (h : Holder) → holder_eq h h ≡ true
holder_same h = rw (eq_same h.account, eq_same h.session, eq_same h.group) refl

pub session_same : (s : Session) → session_eq s s ≡ true
session_same s = rw (eq_same s.account, eq_same s.session) refl

pub length-push : (xs : List Booked) (b : Booked) → length (xs ++ b ∷ []) ≡ length xs + 1
length-push xs b = length-append xs (b ∷ [])

-- rounds written with as many over leave that number everywhere
over_same : (st : Stored) (k : Session) (r : Rounds) → r.over ≡ (st.of k).over → (t : Session) → ((with_rounds st k r).of t).over ≡ (st.of t).over
over_same st k r same t = by (session_eq k t) refl
  where
    by : (c : Bool) → session_eq k t ≡ c → (if c then r else st.of t).over ≡ (st.of t).over
    by true e = same ∙ ap (λ (q : Session). (st.of q).over) (session_from k t e)
    by false e = refl

lt_next : (n : ℕ) → nat_lt n (n + 1) ≡ true
lt_next n = grind (arith, nat_tests)

not_lt : (m n : ℕ) → n ≤ m → nat_lt m n ≡ false
not_lt m n h = grind (arith, nat_tests)

lt_from : (m n : ℕ) → nat_lt m n ≡ true → m < n
lt_from m n h = grind (arith, nat_tests)

is_zero : (n : ℕ) → (n == 0) ≡ true → n ≡ 0
is_zero n h = eq_from n 0 h

module _ (st : Stored) (xs : List Booked) (s : IsStored st xs) (o : Outcome) where
  -- where the sums stay, so does what is stored
  unmoved : (op : Op) → ((h : Holder) → own h.account h.session h.group (xs ++ entry op o ∷ []) ≡ own h.account h.session h.group xs)
      → ((t : Session) → own_all t.account t.session (xs ++ entry op o ∷ []) ≡ own_all t.account t.session xs) → IsStored st (xs ++ entry op o ∷ [])
  unmoved op owns totals = record {
    own = λ h. s.own h ∙ sym (owns h);
    total = λ t. s.total t ∙ sym (totals t);
    fresh = s.fresh;
    few = λ t. omega (arith, s.few t, length-push xs (entry op o));
  }

  same_if : (c : Bool) (m x : ℕ) → m ≡ 0 → x + (if c then m else 0) ≡ x
  same_if true m x e = omega (arith, e)
  same_if false m x e = omega arith

  more_if : (c : Bool) (m x : ℕ) → m ≡ 0 → (if c then x + m else x) ≡ x
  more_if true m x e = omega (arith, e)
  more_if false m x e = refl

  less_if : (c : Bool) (m x : ℕ) → m ≡ 0 → (if c then x - m else x) ≡ x
  less_if true m x e = omega (arith, e)
  less_if false m x e = refl

module _ (st : Stored) (xs : List Booked) (s : IsStored st xs) (o : Outcome) (a u g n : ℕ) where
  abbrev h0 : Holder
  h0 = record { account = a; session = u; group = g }

  abbrev k0 : Session
  k0 = record { account = a; session = u }

  abbrev b0 : Booked
  b0 = entry (Reserve a u g n) o

  owns-Reserve : (h : Holder) → own h.account h.session h.group (xs ++ b0 ∷ []) ≡ own h.account h.session h.group xs + (if holder_eq h0 h then amount_of o else 0)
  owns-Reserve h = own-push_more h.account h.session h.group xs b0 refl

  totals-Reserve : (t : Session) → own_all t.account t.session (xs ++ b0 ∷ []) ≡ (if session_eq k0 t then own_all t.account t.session xs + amount_of o else own_all t.account t.session xs)
  totals-Reserve t = of (session_eq k0 t) refl
    where
      of : (c : Bool) → session_eq k0 t ≡ c → own_all t.account t.session (xs ++ b0 ∷ []) ≡ (if c then own_all t.account t.session xs + amount_of o else own_all t.account t.session xs)
      of true e = left_where-in (λ x y z. (x == t.account) && (y == t.session)) xs o (Reserve a u g n) e
      of false e = left_where-out (λ x y z. (x == t.account) && (y == t.session)) xs o (Reserve a u g n) e

  abbrev held0 : Held
  held0 = record { amount = standing st h0 + amount_of o; round = (st.of k0).over + 1 }

  abbrev rounds0 : Rounds
  rounds0 = record { total = (st.of k0).total + amount_of o; over = (st.of k0).over }

  abbrev new0 : Stored
  new0 = with_rounds (with_held st h0 held0) k0 rounds0

  own-added : (h : Holder) (c : Bool) → holder_eq h0 h ≡ c
      → standing_in (if session_eq k0 (session_of h) then rounds0 else st.of (session_of h)) (if c then held0 else st.at h)
      ≡ own h.account h.session h.group xs + (if c then amount_of o else 0)
  own-added h true e =
      let is : h0 ≡ h = holder_from h0 h e in
      let over : (if session_eq k0 (session_of h) then rounds0 else st.of (session_of h)).over ≡ (st.of k0).over =
      over_same st k0 rounds0 refl (session_of h) ∙ ap (λ (q : Holder). (st.of (session_of q)).over) (sym is) in
      ap (λ m. if nat_lt m ((st.of k0).over + 1) then standing st h0 + amount_of o else 0) over
      ∙ ap (λ (c : Bool). if c then standing st h0 + amount_of o else 0) (lt_next (st.of k0).over)
      ∙ ap (λ m. m + amount_of o) (s.own h0)
      ∙ ap (λ (q : Holder). own q.account q.session q.group xs + amount_of o) is
  own-added h false e =
      ap (λ m. if nat_lt m (st.at h).round then (st.at h).amount else 0) (over_same st k0 rounds0 refl (session_of h))
      ∙ s.own h ∙ (let z : own h.account h.session h.group xs ≡ own h.account h.session h.group xs + 0 = omega arith in z)

  total-added : (t : Session) (c : Bool) → session_eq k0 t ≡ c
      → (if c then rounds0 else st.of t).total ≡ (if c then own_all t.account t.session xs + amount_of o else own_all t.account t.session xs)
  total-added t true e = ap (λ (q : Session). (st.of q).total + amount_of o) (session_from k0 t e) ∙ ap (λ m. m + amount_of o) (s.total t)
  total-added t false e = s.total t

  fresh-added : (h : Holder) (c : Bool) → holder_eq h0 h ≡ c
      → (if c then held0 else st.at h).round ≤ (if session_eq k0 (session_of h) then rounds0 else st.of (session_of h)).over + 1
  fresh-added h true e =
      let is : h0 ≡ h = holder_from h0 h e in
      let over : (if session_eq k0 (session_of h) then rounds0 else st.of (session_of h)).over ≡ (st.of k0).over =
      over_same st k0 rounds0 refl (session_of h) ∙ ap (λ (q : Holder). (st.of (session_of q)).over) (sym is) in
      omega (arith, over)
  fresh-added h false e = omega (arith, over_same st k0 rounds0 refl (session_of h), s.fresh h)

  pub stored-Reserve : IsStored (step_of st (Reserve a u g n) o).0 (xs ++ entry (Reserve a u g n) o ∷ [])
  stored-Reserve = by (amount_of o == 0) refl
    where
      by : (c : Bool) → (amount_of o == 0) ≡ c → IsStored (if c then (let r : Stored × Option Before = (st, None) in r) else (new0, Some (record { held = st.at h0; rounds = st.of k0 }))).0 (xs ++ b0 ∷ [])
      by true e = unmoved st xs s o (Reserve a u g n)
          (λ h. owns-Reserve h ∙ same_if st xs s o (holder_eq h0 h) (amount_of o) (own h.account h.session h.group xs) (is_zero (amount_of o) e))
          (λ t. totals-Reserve t ∙ more_if st xs s o (session_eq k0 t) (amount_of o) (own_all t.account t.session xs) (is_zero (amount_of o) e))
      by false e = record {
        own = λ h. own-added h (holder_eq h0 h) refl ∙ sym (owns-Reserve h);
        total = λ t. total-added t (session_eq k0 t) refl ∙ sym (totals-Reserve t);
        fresh = λ h. fresh-added h (holder_eq h0 h) refl;
        few = λ t. omega (arith, over_same st k0 rounds0 refl t, s.few t, length-push xs b0);
      }

-- a Debit
module _ (st : Stored) (xs : List Booked) (s : IsStored st xs) (o : Outcome) (a u g n : ℕ) where
  abbrev h1 : Holder
  h1 = record { account = a; session = u; group = g }

  abbrev k1 : Session
  k1 = record { account = a; session = u }

  abbrev b1 : Booked
  b1 = entry (Debit a u g n) o

  owns-Debit : (h : Holder) (c : Bool) → holder_eq h1 h ≡ c → own h.account h.session h.group (xs ++ b1 ∷ []) ≡ (if c then 0 else own h.account h.session h.group xs)
  owns-Debit h true e = own-push_end h.account h.session h.group xs b1 e
  owns-Debit h false e = own-push_more h.account h.session h.group xs b1 e ∙ omega arith

  totals-Debit : (t : Session) (c : Bool) → session_eq k1 t ≡ c → own_all t.account t.session (xs ++ b1 ∷ []) ≡ (if c then own_all t.account t.session xs - standing st h1 else own_all t.account t.session xs)
  totals-Debit t true e = left_where-in (λ x y z. (x == t.account) && (y == t.session)) xs o (Debit a u g n) e ∙ ap (λ m. own_all t.account t.session xs - m) (sym (s.own h1))
  totals-Debit t false e = left_where-out (λ x y z. (x == t.account) && (y == t.session)) xs o (Debit a u g n) e

  abbrev held1 : Held
  held1 = record { amount = 0; round = (st.at h1).round }

  abbrev rounds1 : Rounds
  rounds1 = record { total = (st.of k1).total - standing st h1; over = (st.of k1).over }

  abbrev new1 : Stored
  new1 = with_rounds (with_held st h1 held1) k1 rounds1

  own-ended : (h : Holder) (c : Bool) → holder_eq h1 h ≡ c
      → standing_in (if session_eq k1 (session_of h) then rounds1 else st.of (session_of h)) (if c then held1 else st.at h)
      ≡ (if c then 0 else own h.account h.session h.group xs)
  own-ended h true e = zero_if (nat_lt (if session_eq k1 (session_of h) then rounds1 else st.of (session_of h)).over (st.at h1).round)
  own-ended h false e =
      ap (λ m. if nat_lt m (st.at h).round then (st.at h).amount else 0) (over_same st k1 rounds1 refl (session_of h)) ∙ s.own h

  total-ended : (t : Session) (c : Bool) → session_eq k1 t ≡ c
      → (if c then rounds1 else st.of t).total ≡ (if c then own_all t.account t.session xs - standing st h1 else own_all t.account t.session xs)
  total-ended t true e = ap (λ (q : Session). (st.of q).total - standing st h1) (session_from k1 t e) ∙ ap (λ m. m - standing st h1) (s.total t)
  total-ended t false e = s.total t

  fresh-ended : (h : Holder) (c : Bool) → holder_eq h1 h ≡ c
      → (if c then held1 else st.at h).round ≤ (if session_eq k1 (session_of h) then rounds1 else st.of (session_of h)).over + 1
  fresh-ended h true e =
      let is : (st.at h1).round ≡ (st.at h).round = ap (λ (q : Holder). (st.at q).round) (holder_from h1 h e) in
      omega (arith, is, over_same st k1 rounds1 refl (session_of h), s.fresh h)
  fresh-ended h false e = omega (arith, over_same st k1 rounds1 refl (session_of h), s.fresh h)

  none_held : (standing st h1 == 0) ≡ true → (h : Holder) (c : Bool) → holder_eq h1 h ≡ c → (if c then 0 else own h.account h.session h.group xs) ≡ own h.account h.session h.group xs
  none_held z h true e = sym (is_zero (standing st h1) z) ∙ ap (standing st) (holder_from h1 h e) ∙ s.own h
  none_held z h false e = refl

  pub stored-Debit : IsStored (step_of st (Debit a u g n) o).0 (xs ++ entry (Debit a u g n) o ∷ [])
  stored-Debit = by (standing st h1 == 0) refl
    where
      by : (c : Bool) → (standing st h1 == 0) ≡ c → IsStored (if c then (let r : Stored × Option Before = (st, None) in r) else (new1, Some (record { held = st.at h1; rounds = st.of k1 }))).0 (xs ++ b1 ∷ [])
      by true e = unmoved st xs s o (Debit a u g n)
          (λ h. owns-Debit h (holder_eq h1 h) refl ∙ none_held e h (holder_eq h1 h) refl)
          (λ t. totals-Debit t (session_eq k1 t) refl ∙ less_if st xs s o (session_eq k1 t) (standing st h1) (own_all t.account t.session xs) (is_zero (standing st h1) e))
      by false e = record {
        own = λ h. own-ended h (holder_eq h1 h) refl ∙ sym (owns-Debit h (holder_eq h1 h) refl);
        total = λ t. total-ended t (session_eq k1 t) refl ∙ sym (totals-Debit t (session_eq k1 t) refl);
        fresh = λ h. fresh-ended h (holder_eq h1 h) refl;
        few = λ t. omega (arith, over_same st k1 rounds1 refl t, s.few t, length-push xs b1);
      }

-- a Release
module _ (st : Stored) (xs : List Booked) (s : IsStored st xs) (o : Outcome) (a u : ℕ) where
  abbrev k2 : Session
  k2 = record { account = a; session = u }

  abbrev b2 : Booked
  b2 = entry (Release a u) o

  owns-Release : (h : Holder) (c : Bool) → session_eq k2 (session_of h) ≡ c → own h.account h.session h.group (xs ++ b2 ∷ []) ≡ (if c then 0 else own h.account h.session h.group xs)
  owns-Release h true e = own-push_end h.account h.session h.group xs b2 e
  owns-Release h false e = own-push_more h.account h.session h.group xs b2 e ∙ omega arith

  totals-Release : (t : Session) (c : Bool) → session_eq k2 t ≡ c → own_all t.account t.session (xs ++ b2 ∷ []) ≡ (if c then own_all t.account t.session xs - own_all a u xs else own_all t.account t.session xs)
  totals-Release t true e = left_where-in (λ x y z. (x == t.account) && (y == t.session)) xs o (Release a u) (λ z. e)
  totals-Release t false e = left_where-out (λ x y z. (x == t.account) && (y == t.session)) xs o (Release a u) (λ z. e)

  abbrev rounds2 : Rounds
  rounds2 = record { total = 0; over = (st.of k2).over + 1 }

  own-all_ended : (h : Holder) (c : Bool) → session_eq k2 (session_of h) ≡ c
      → standing_in (if c then rounds2 else st.of (session_of h)) (st.at h) ≡ (if c then 0 else own h.account h.session h.group xs)
  own-all_ended h true e =
      let is : (st.of k2).over ≡ (st.of (session_of h)).over = ap (λ (q : Session). (st.of q).over) (session_from k2 (session_of h) e) in
      let f = s.fresh h in
      let past : (st.at h).round ≤ (st.of k2).over + 1 = omega arith in
      ap (λ (c : Bool). if c then (st.at h).amount else 0) (not_lt ((st.of k2).over + 1) (st.at h).round past)
  own-all_ended h false e = s.own h

  total-all_ended : (t : Session) (c : Bool) → session_eq k2 t ≡ c
      → (if c then rounds2 else st.of t).total ≡ (if c then own_all t.account t.session xs - own_all a u xs else own_all t.account t.session xs)
  total-all_ended t true e =
      let is : own_all a u xs ≡ own_all t.account t.session xs = ap (λ (q : Session). own_all q.account q.session xs) (session_from k2 t e) in omega (arith, is)
  total-all_ended t false e = s.total t

  over-all_ended : (t : Session) (c : Bool) → session_eq k2 t ≡ c → ((st.of t).over ≤ (if c then rounds2 else st.of t).over) × ((if c then rounds2 else st.of t).over ≤ (st.of t).over + 1)
  over-all_ended t true e = let is : (st.of k2).over ≡ (st.of t).over = ap (λ (q : Session). (st.of q).over) (session_from k2 t e) in (omega (arith, is), omega (arith, is))
  over-all_ended t false e = (omega arith, omega arith)

  no_total : ((st.of k2).total == 0) ≡ true → (h : Holder) (c : Bool) → session_eq k2 (session_of h) ≡ c → (if c then 0 else own h.account h.session h.group xs) ≡ own h.account h.session h.group xs
  no_total z h true e =
      let is : (st.of k2).total ≡ (st.of (session_of h)).total = ap (λ (q : Session). (st.of q).total) (session_from k2 (session_of h) e) in
      omega (arith, is, is_zero (st.of k2).total z, s.total (session_of h), own-le-own_all h.account h.session h.group xs)
  no_total z h false e = refl

  pub stored-Release : IsStored (step_of st (Release a u) o).0 (xs ++ entry (Release a u) o ∷ [])
  stored-Release = by ((st.of k2).total == 0) refl
    where
      by : (c : Bool) → ((st.of k2).total == 0) ≡ c → IsStored (if c then (let r : Stored × Option Before = (st, None) in r) else (with_rounds st k2 rounds2, Some (record { held = record { amount = 0; round = 0 }; rounds = st.of k2 }))).0 (xs ++ b2 ∷ [])
      by true e = unmoved st xs s o (Release a u)
          (λ h. owns-Release h (session_eq k2 (session_of h)) refl ∙ no_total e h (session_eq k2 (session_of h)) refl)
          (λ t. totals-Release t (session_eq k2 t) refl ∙ less_if st xs s o (session_eq k2 t) (own_all a u xs) (own_all t.account t.session xs) (sym (s.total k2) ∙ is_zero (st.of k2).total e))
      by false e = record {
        own = λ h. own-all_ended h (session_eq k2 (session_of h)) refl ∙ sym (owns-Release h (session_eq k2 (session_of h)) refl);
        total = λ t. total-all_ended t (session_eq k2 t) refl ∙ sym (totals-Release t (session_eq k2 t) refl);
        fresh = λ h. (let r = over-all_ended (session_of h) (session_eq k2 (session_of h)) refl in omega (arith, r.0, s.fresh h));
        few = λ t. (let r = over-all_ended t (session_eq k2 t) refl in omega (arith, r.1, s.few t, length-push xs b2));
      }

-- what is stored stays the sums of the journal
pub stored-step : (st : Stored) (xs : List Booked) → IsStored st xs → (op : Op) (o : Outcome) → IsStored (step_of st op o).0 (xs ++ entry op o ∷ [])
stored-step st xs s (Reserve a u g n) o = stored-Reserve st xs s o a u g n
stored-step st xs s (Debit a u g n) o = stored-Debit st xs s o a u g n
stored-step st xs s (Release a u) o = stored-Release st xs s o a u
stored-step st xs s (Charge a n) o =
    unmoved st xs s o (Charge a n) (λ h. own-push_more h.account h.session h.group xs (entry (Charge a n) o) refl ∙ omega arith)
    (λ t. left_where-out (λ x y z. (x == t.account) && (y == t.session)) xs o (Charge a n) tt)
stored-step st xs s (Refund a n) o =
    unmoved st xs s o (Refund a n) (λ h. own-push_more h.account h.session h.group xs (entry (Refund a n) o) refl ∙ omega arith)
    (λ t. left_where-out (λ x y z. (x == t.account) && (y == t.session)) xs o (Refund a n) tt)

-- a reservation and its session, written and put back
put_back : (st : Stored) (h : Holder) (held : Held) (rounds : Rounds)
    → with_rounds (with_held (with_rounds (with_held st h held) (session_of h) rounds) h (st.at h)) (session_of h) (st.of (session_of h)) ≡ st
put_back st h held rounds = λ i. record { at = λ q. at_is q (holder_eq h q) refl i; of = λ t. of_is t (session_eq (session_of h) t) refl i }
  where
    at_is : (q : Holder) (c : Bool) → holder_eq h q ≡ c → (if c then st.at h else (if c then held else st.at q)) ≡ st.at q
    at_is q true e = ap st.at (holder_from h q e)
    at_is q false e = refl

    of_is : (t : Session) (c : Bool) → session_eq (session_of h) t ≡ c → (if c then st.of (session_of h) else (if c then rounds else st.of t)) ≡ st.of t
    of_is t true e = ap st.of (session_from (session_of h) t e)
    of_is t false e = refl

put_back_session : (st : Stored) (k : Session) (rounds : Rounds) → with_rounds (with_rounds st k rounds) k (st.of k) ≡ st
put_back_session st k rounds = λ i. record { at = st.at; of = λ t. of_is t (session_eq k t) refl i }
  where
    of_is : (t : Session) (c : Bool) → session_eq k t ≡ c → (if c then st.of k else (if c then rounds else st.of t)) ≡ st.of t
    of_is t true e = ap st.of (session_from k t e)
    of_is t false e = refl

-- where nothing was written over, nothing is put back
undone-None : (st : Stored) (op : Op) → undone st op None ≡ st
undone-None st (Reserve a u g n) = refl
undone-None st (Debit a u g n) = refl
undone-None st (Release a u) = refl
undone-None st (Charge a n) = refl
undone-None st (Refund a n) = refl

undone-if : (st : Stored) (op : Op) (c : Bool) (new : Stored) (b : Before) → undone new op (Some b) ≡ st
    → undone (if c then (let r : Stored × Option Before = (st, None) in r) else (new, Some b)).0 op (if c then (let r : Stored × Option Before = (st, None) in r) else (new, Some b)).1 ≡ st
undone-if st op true new b h = undone-None st op
undone-if st op false new b h = h

-- what an operation wrote over, put back, gives what was stored before
pub undone-step : (st : Stored) (op : Op) (o : Outcome) → undone (step_of st op o).0 op (step_of st op o).1 ≡ st
undone-step st (Reserve a u g n) o =
    let h : Holder = record { account = a; session = u; group = g } in
    undone-if st (Reserve a u g n) (amount_of o == 0) (with_rounds (with_held st h (record { amount = standing st h + amount_of o; round = (st.of (session_of h)).over + 1 })) (session_of h) (record { total = (st.of (session_of h)).total + amount_of o; over = (st.of (session_of h)).over }))
    (record { held = st.at h; rounds = st.of (session_of h) })
    (put_back st h (record { amount = standing st h + amount_of o; round = (st.of (session_of h)).over + 1 }) (record { total = (st.of (session_of h)).total + amount_of o; over = (st.of (session_of h)).over }))
undone-step st (Debit a u g n) o =
    let h : Holder = record { account = a; session = u; group = g } in
    undone-if st (Debit a u g n) (standing st h == 0) (with_rounds (with_held st h (record { amount = 0; round = (st.at h).round })) (session_of h) (record { total = (st.of (session_of h)).total - standing st h; over = (st.of (session_of h)).over }))
    (record { held = st.at h; rounds = st.of (session_of h) })
    (put_back st h (record { amount = 0; round = (st.at h).round }) (record { total = (st.of (session_of h)).total - standing st h; over = (st.of (session_of h)).over }))
undone-step st (Release a u) o =
    let k : Session = record { account = a; session = u } in
    undone-if st (Release a u) ((st.of k).total == 0) (with_rounds st k (record { total = 0; over = (st.of k).over + 1 })) (record { held = record { amount = 0; round = 0 }; rounds = st.of k })
    (put_back_session st k (record { total = 0; over = (st.of k).over + 1 }))
undone-step st (Charge a n) o = refl
undone-step st (Refund a n) o = refl

unmarked : (st : Stored) (op : Op) → IsMarked st op None
unmarked st (Reserve a u g n) = tt
unmarked st (Debit a u g n) = tt
unmarked st (Release a u) = tt
unmarked st (Charge a n) = tt
unmarked st (Refund a n) = tt

marked-if : (st : Stored) (op : Op) (c : Bool) (new : Stored) (b : Before) → (c ≡ false → IsMarked new op (Some b))
    → IsMarked (if c then (let r : Stored × Option Before = (st, None) in r) else (new, Some b)).0 op (if c then (let r : Stored × Option Before = (st, None) in r) else (new, Some b)).1
marked-if st op true new b h = unmarked st op
marked-if st op false new b h = h refl

-- where something stands, it was written in a round
standing-round : (rounds : Rounds) (held : Held) → (standing_in rounds held == 0) ≡ false → 0 < held.round
standing-round rounds held h = by (nat_lt rounds.over held.round) refl h
  where
    by : (c : Bool) → nat_lt rounds.over held.round ≡ c → ((if c then held.amount else 0) == 0) ≡ false → 0 < held.round
    by true e k = let l = lt_from rounds.over held.round e in omega arith
    by false e k = absurd (true≢false k)

-- what an operation wrote is there
pub marked-step : (st : Stored) (op : Op) (o : Outcome) → IsMarked (step_of st op o).0 op (step_of st op o).1
marked-step st (Reserve a u g n) o =
    let h : Holder = record { account = a; session = u; group = g } in
    let held : Held = record { amount = standing st h + amount_of o; round = (st.of (session_of h)).over + 1 } in
    marked-if st (Reserve a u g n) (amount_of o == 0) (with_rounds (with_held st h (record { amount = standing st h + amount_of o; round = (st.of (session_of h)).over + 1 })) (session_of h) (record { total = (st.of (session_of h)).total + amount_of o; over = (st.of (session_of h)).over }))
    (record { held = st.at h; rounds = st.of (session_of h) })
    (λ e. subst (λ (c : Bool). 0 < (if c then (let r : Held = record { amount = standing st h + amount_of o; round = (st.of (session_of h)).over + 1 } in r) else st.at h).round) (sym (holder_same h)) (omega arith))
marked-step st (Debit a u g n) o =
    let h : Holder = record { account = a; session = u; group = g } in
    marked-if st (Debit a u g n) (standing st h == 0) (with_rounds (with_held st h (record { amount = 0; round = (st.at h).round })) (session_of h) (record { total = (st.of (session_of h)).total - standing st h; over = (st.of (session_of h)).over }))
    (record { held = st.at h; rounds = st.of (session_of h) })
    (λ e. subst (λ (c : Bool). 0 < (if c then (let r : Held = record { amount = 0; round = (st.at h).round } in r) else st.at h).round) (sym (holder_same h)) (standing-round (st.of (session_of h)) (st.at h) e))
marked-step st (Release a u) o =
    let k : Session = record { account = a; session = u } in
    marked-if st (Release a u) ((st.of k).total == 0) (with_rounds st k (record { total = 0; over = (st.of k).over + 1 })) (record { held = record { amount = 0; round = 0 }; rounds = st.of k })
    (λ e. subst (λ (c : Bool). 0 < (if c then (let r : Rounds = record { total = 0; over = (st.of k).over + 1 } in r) else st.of k).over) (sym (session_same k)) (omega arith))
marked-step st (Charge a n) o = tt
marked-step st (Refund a n) o = tt

-- a reservation that is added has a place, and so has its session
pub placed-added : (R S : Holder → Option Held) (T U : Session → Option Rounds) (h : Holder) (held : Held) (k : Session) (rounds : Rounds) → k ≡ session_of h
    → ((q : Holder) → S q ≡ cond (holder_eq h q) (Some held) (R q)) → ((t : Session) → U t ≡ cond (session_eq k t) (Some rounds) (T t))
    → ((q : Holder) → IsSome (R q) → IsSome (T (session_of q))) → (q : Holder) → IsSome (S q) → IsSome (U (session_of q))
placed-added R S T U h held k rounds is at of placed q there =
    subst IsSome (sym (of (session_of q))) (by (holder_eq h q) refl (subst IsSome (at q) there))
  where
    more : (c : Bool) (o : Option Rounds) → IsSome o → IsSome (cond c (Some rounds) o)
    more true o e = refl
    more false o e = e

    by : (c : Bool) → holder_eq h q ≡ c → IsSome (cond c (Some held) (R q)) → IsSome (cond (session_eq k (session_of q)) (Some rounds) (T (session_of q)))
    by true e there =
        subst (λ (c : Bool). IsSome (cond c (Some rounds) (T (session_of q)))) (sym (ap (λ (s : Session). session_eq s (session_of q)) (is ∙ ap session_of (holder_from h q e)) ∙ session_same (session_of q))) refl
    by false e there = more (session_eq k (session_of q)) (T (session_of q)) (placed q there)
