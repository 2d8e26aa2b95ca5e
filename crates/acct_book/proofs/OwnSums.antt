-- What one more entry does to a reservation.
use Rattle.std.proofs.Common.{◌≡◌, ℕ, ◌+◌, ◌-◌, List, [], ◌∷◌, ◌++◌, Bool, true, false, true≢false, not, cond, length, drop, reverse, refl, sym, ◌∙◌, ap, arith, length-append}
use Rattle.std.specs.Prelude.{sum_by, ◌||◌}
use Rattle.std.specs.List.{after_last, prefix_len, suffix_len, list_any}
use Rattle.std.proofs.Math.Seq.{drop-length}
use Rattle.std.proofs.lemmas.List.{reverse-append, drop-append-le}
use Rattle.std.proofs.lemmas.List.Sums.{sum_by-append}
use Rattle.acct_totals.specs.declared.op.Op.{Op}
use Rattle.acct_totals.specs.declared.op.Op.TheVariants.{Reserve, Debit, Release, Charge, Refund}
use Rattle.acct_totals.specs.declared.op.Outcome.{Outcome}
use Rattle.acct_totals.specs.declared.op.Booked.{Booked}
use Rattle.acct_book.specs.Sums.{own, ends, is_same, reserved_where}

module _ {X : Type 0} (p : X → Bool) where
  reversed_push : (xs : List X) (b : X) → reverse (xs ++ b ∷ []) ≡ b ∷ reverse xs
  reversed_push xs b = reverse-append xs (b ∷ [])

  length-push : (xs : List X) (b : X) → length (xs ++ b ∷ []) ≡ length xs + 1
  length-push xs b = length-append xs (b ∷ [])

  suffix_len-push : (xs : List X) (b : X) → suffix_len p (xs ++ b ∷ []) ≡ cond (p b) (1 + suffix_len p xs) 0
  suffix_len-push xs b = ap (prefix_len p) (reversed_push xs b)

-- nothing stands after an element at the end that passes
pub after_last-push_yes : {X : Type 0} (p : X → Bool) (xs : List X) (b : X) → p b ≡ true → after_last p (xs ++ b ∷ []) ≡ []
after_last-push_yes p xs b h =
    let k = suffix_len-push (λ x. not (p x)) xs b in
    let e : suffix_len (λ x. not (p x)) (xs ++ b ∷ []) ≡ 0 = k ∙ ap (λ t. cond (not t) (1 + suffix_len (λ x. not (p x)) xs) 0) h in
    let n : length (xs ++ b ∷ []) - 0 ≡ length (xs ++ b ∷ []) = omega arith in
    ap (λ m. drop (length (xs ++ b ∷ []) - m) (xs ++ b ∷ [])) e ∙ ap (λ m. drop m (xs ++ b ∷ [])) n ∙ drop-length (xs ++ b ∷ [])

-- one that doesn't pass goes to the end of what stands after the last that does
pub after_last-push_no : {X : Type 0} (p : X → Bool) (xs : List X) (b : X) → p b ≡ false → after_last p (xs ++ b ∷ []) ≡ after_last p xs ++ b ∷ []
after_last-push_no p xs b h =
    let k = suffix_len (λ x. not (p x)) xs in
    let e : suffix_len (λ x. not (p x)) (xs ++ b ∷ []) ≡ 1 + k = suffix_len-push (λ x. not (p x)) xs b ∙ ap (λ t. cond (not t) (1 + k) 0) h in
    let n : length (xs ++ b ∷ []) - (1 + k) ≡ length xs - k = omega (arith, length-push p xs b) in
    ap (λ m. drop (length (xs ++ b ∷ []) - m) (xs ++ b ∷ [])) e ∙ ap (λ m. drop m (xs ++ b ∷ [])) n
    ∙ drop-append-le (length xs - k) xs (b ∷ []) (omega arith)

module _ (a s g : ℕ) (xs : List Booked) (b : Booked) where
  -- a Debit or Release ends the reservation
  pub own-push_end : ends a s g b.op ≡ true → own a s g (xs ++ b ∷ []) ≡ 0
  unfolding own
  own-push_end h = ap (sum_by (reserved_where (is_same a s g))) (after_last-push_yes (λ (x : Booked). ends a s g x.op) xs b h)

  -- another entry adds what it reserves
  pub own-push_more : ends a s g b.op ≡ false → own a s g (xs ++ b ∷ []) ≡ own a s g xs + reserved_where (is_same a s g) b
  unfolding own
  own-push_more h =
      ap (sum_by (reserved_where (is_same a s g))) (after_last-push_no (λ (x : Booked). ends a s g x.op) xs b h)
      ∙ sum_by-append (reserved_where (is_same a s g)) (after_last (λ (x : Booked). ends a s g x.op) xs) (b ∷ []) ∙ omega arith

pub any-push_no : (p : Booked → Bool) (xs : List Booked) (b : Booked) → p b ≡ false → list_any p (xs ++ b ∷ []) ≡ list_any p xs
any-push_no p [] b h = rw h refl
any-push_no p (x ∷ xs) b h = ap (λ (t : Bool). p x || t) (any-push_no p xs b h)

pub any-push_yes : (p : Booked → Bool) (xs : List Booked) (b : Booked) → p b ≡ true → list_any p (xs ++ b ∷ []) ≡ true
any-push_yes p [] b h = rw h refl
any-push_yes p (x ∷ xs) b h = ap (λ (t : Bool). p x || t) (any-push_yes p xs b h) ∙ or_true (p x)
  where
    or_true : (t : Bool) → (t || true) ≡ true
    or_true true = refl
    or_true false = refl

-- a Debit or Release reserves nothing
pub end_reserves_none : (p : ℕ → ℕ → ℕ → Bool) (a s g : ℕ) (op : Op) (o : Outcome) → ends a s g op ≡ true → reserved_where p (record { op = op; outcome = o }) ≡ 0
end_reserves_none p a s g (Reserve t u v n) o h = absurd (true≢false (sym h))
end_reserves_none p a s g (Debit t u v n) o h = refl
end_reserves_none p a s g (Release t u) o h = refl
end_reserves_none p a s g (Charge t n) o h = refl
end_reserves_none p a s g (Refund t n) o h = refl

pub own-none : (a s g : ℕ) → own a s g [] ≡ 0
unfolding own
own-none a s g = refl
