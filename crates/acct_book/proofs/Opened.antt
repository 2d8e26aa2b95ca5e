-- The accounts as the book shows them, and the map that keeps their totals.
use Rattle.std.proofs.Common.{◌≡◌, ℕ, List, [], ◌∷◌, ◌++◌, Bool, true, false, true≢false, cond, map, length, Option, None, Some, refl, sym, ◌∙◌, ap, subst, nat_eq, suc}
use Rattle.std.specs.Prelude.{◌==◌, find, is_some, unwrap_or}
use Rattle.std.specs.Option.{option_map}
use Rattle.std.specs.Map.{lookup}
use Rattle.indexmap.specs.IndexMap.{insert_entry, get}
use Rattle.acct_totals.specs.declared.answer.Totals.{Totals}
use Rattle.acct_totals.specs.declared.op.Booked.{Booked}
use Rattle.acct_book.specs.Book.{Opened, given_of, sums_of, totals_of}
use Rattle.acct_book.specs.Ledger.{Accounts, opened_of, kept, none, IsKeptFor}

abbrev pub shown : ℕ × Totals → Opened
shown e = record { id = e.0; given = e.1.given }

-- what an account was given is what its totals say
given-shown : (es : List (ℕ × Totals)) (a : ℕ) → given_of (map shown es) a ≡ option_map (λ (t : Totals). t.given) (lookup (nat_eq a) es)
given-shown [] a = refl
given-shown (e ∷ es) a = by (nat_eq a e.0) (given-shown es a)
  where
    by : (b : Bool) → given_of (map shown es) a ≡ option_map (λ (t : Totals). t.given) (lookup (nat_eq a) es)
        → option_map (λ (o : Opened). o.given) (cond b (Some (shown e)) (find (λ (o : Opened). a == o.id) (map shown es))) ≡ option_map (λ (t : Totals). t.given) (cond b (Some e.1) (lookup (nat_eq a) es))
    by true h = refl
    by false h = h

pub given-opened_of : (m : Accounts) (a : ℕ) → given_of (opened_of m) a ≡ option_map (λ (t : Totals). t.given) (get nat_eq m a)
given-opened_of m a = given-shown m.entries a

-- totals written over others leave the accounts as the book shows them
pub shown-insert_entry : (es : List (ℕ × Totals)) (a : ℕ) (t u : Totals) → lookup (nat_eq a) es ≡ Some t → u.given ≡ t.given → map shown (insert_entry nat_eq es a u) ≡ map shown es
shown-insert_entry [] a t u h same = absurd (true≢false (sym (ap is_some h)))
shown-insert_entry (e ∷ es) a t u h same = by (nat_eq a e.0) h (λ k. shown-insert_entry es a t u k same)
  where
    by : (b : Bool) → cond b (Some e.1) (lookup (nat_eq a) es) ≡ Some t → (lookup (nat_eq a) es ≡ Some t → map shown (insert_entry nat_eq es a u) ≡ map shown es) → map shown (cond b ((e.0, u) ∷ es) (e ∷ insert_entry nat_eq es a u)) ≡ shown e ∷ map shown es
    by true k rest = let f : e.1 ≡ t = cc in let g : u.given ≡ e.1.given = same ∙ sym (ap (λ (x : Totals). x.given) f) in ap (λ n. (let o : Opened = record { id = e.0; given = n } in o) ∷ map shown es) g
    by false k rest = ap (λ (l : List Opened). shown e ∷ l) (rest k)

-- a new account goes last
pub shown-insert_new : (es : List (ℕ × Totals)) (a : ℕ) (u : Totals) → lookup (nat_eq a) es ≡ None → map shown (insert_entry nat_eq es a u) ≡ map shown es ++ shown (a, u) ∷ []
shown-insert_new [] a u h = refl
shown-insert_new (e ∷ es) a u h = by (nat_eq a e.0) h (shown-insert_new es a u)
  where
    by : (b : Bool) → cond b (Some e.1) (lookup (nat_eq a) es) ≡ None → (lookup (nat_eq a) es ≡ None → map shown (insert_entry nat_eq es a u) ≡ map shown es ++ shown (a, u) ∷ []) → map shown (cond b ((e.0, u) ∷ es) (e ∷ insert_entry nat_eq es a u)) ≡ shown e ∷ (map shown es ++ shown (a, u) ∷ [])
    by true k rest = absurd (true≢false (ap is_some k))
    by false k rest = ap (λ (l : List Opened). shown e ∷ l) (rest k)

pub length-shown : (es : List (ℕ × Totals)) → length (map shown es) ≡ length es
length-shown [] = refl
length-shown (e ∷ es) = ap (λ n. suc n) (length-shown es)

-- the totals that are kept are those of the book
pub totals-kept : (m : Accounts) (journal : List Booked) (a : ℕ) → IsKeptFor a (kept m a) journal → totals_of (record { accounts = opened_of m; journal = journal }) a ≡ get nat_eq m a
totals-kept m journal a h = ap (option_map (λ given. sums_of given a journal)) (given-opened_of m a) ∙ by (get nat_eq m a) refl
  where
    by : (o : Option Totals) → get nat_eq m a ≡ o → option_map (λ given. sums_of given a journal) (option_map (λ (t : Totals). t.given) o) ≡ o
    by None e = refl
    by (Some t) e =
        let k : kept m a ≡ t = ap (λ (o : Option Totals). unwrap_or o none) e in
        ap Some (sym (subst (λ (x : Totals). x ≡ sums_of x.given a journal) k h.summed.sums))
