-- Operations that are booked one after the other, and taken back.
use Rattle.std.proofs.Common.{◌≡◌, ℕ, ◌+◌, ◌-◌, ◌<◌, List, [], ◌∷◌, ◌++◌, Option, Some, None, length, take, get_or, fold, refl, ap, suc, arith, append_assoc, append-nil, length-append}
use Rattle.std.specs.List.{filter_map}
use Rattle.std.proofs.lemmas.List.{take_more}
use Rattle.std.proofs.lemmas.List.Elements.{filter_map-append}
use Rattle.std.proofs.lemmas.List.Sums.{fold-append}
use Rattle.std.proofs.Math.Seq.{take-append_seam}
use Rattle.acct_book.specs.Book.{Book, Paged, after, booked_of, outcome_of, with_book}
use Rattle.acct_totals.specs.declared.op.Booked.{Booked}
use Rattle.acct_totals.specs.declared.op.Op.{Op}
use Rattle.acct_totals.specs.declared.op.Outcome.{Outcome}
use Rattle.bench_spec.specs.Booked.{outcomes_of}
use Rattle.bench_move.specs.Moves.{without_last}

-- one more that gives something, and one more that gives nothing
pub filter_map-some : {X Y : Type 0} (f : X → Option Y) (xs : List X) (i : ℕ) (d : X) (y : Y) → i < length xs → f (get_or xs i d) ≡ Some y → filter_map f (take (i + 1) xs) ≡ filter_map f (take i xs) ++ y ∷ []
filter_map-some f xs i d y l s = rw (take_more xs i d l, filter_map-append f (take i xs) (get_or xs i d ∷ []), s) refl

pub filter_map-none : {X Y : Type 0} (f : X → Option Y) (xs : List X) (i : ℕ) (d : X) → i < length xs → f (get_or xs i d) ≡ None → filter_map f (take (i + 1) xs) ≡ filter_map f (take i xs)
filter_map-none f xs i d l n = rw (take_more xs i d l, filter_map-append f (take i xs) (get_or xs i d ∷ []), n) (append-nil (filter_map f (take i xs)))

-- the outcome of one more operation
pub outcomes_of-more : (book : Book) (ops : List Op) (op : Op) → outcomes_of book (ops ++ op ∷ []) ≡ outcomes_of book ops ++ outcome_of (fold after book ops) op ∷ []
outcomes_of-more book [] op = refl
outcomes_of-more book (o ∷ ops) op = ap (λ rest. outcome_of book o ∷ rest) (outcomes_of-more (after book o) ops op)

pub outcomes_of-next : (old now : Paged) (ops : List Op) (i : ℕ) (d : Op) (outcome : Outcome) → i < length ops → now ≡ with_book old (fold after old.book (take i ops)) (old.room - i) → outcome ≡ outcome_of now.book (get_or ops i d) → outcomes_of old.book (take (i + 1) ops) ≡ outcomes_of old.book (take i ops) ++ outcome ∷ []
outcomes_of-next old now ops i d outcome l m o =
    rw (o, m, take_more ops i d l) (outcomes_of-more old.book (take i ops) (get_or ops i d))

-- a page on which one more operation was booked
pub booked-next : (old now new : Paged) (ops : List Op) (i : ℕ) (d : Op) → i < length ops → now ≡ with_book old (fold after old.book (take i ops)) (old.room - i) → new ≡ with_book now (after now.book (get_or ops i d)) (now.room - 1) → new ≡ with_book old (fold after old.book (take (i + 1) ops)) (old.room - (i + 1))
booked-next old now new ops i d l m n =
    let room : (old.room - i) - 1 ≡ old.room - (i + 1) = omega arith in
    rw (n, m, take_more ops i d l, fold-append after old.book (take i ops) (get_or ops i d ∷ []), room) refl

-- what is booked, one after the other
added : Book → List Op → List Booked
added book [] = []
added book (op ∷ ops) = booked_of book op ∷ added (after book op) ops

length-added : (book : Book) (ops : List Op) → length (added book ops) ≡ length ops
unfolding added
length-added book [] = refl
length-added book (op ∷ ops) = ap suc (length-added (after book op) ops)

after-added : (book : Book) (ops : List Op) → fold after book ops ≡ record { accounts = book.accounts; journal = book.journal ++ added book ops }
unfolding added
after-added book [] = rw (append-nil book.journal) refl
after-added book (op ∷ ops) = rw (after-added (after book op) ops, append_assoc) refl

-- the journal has as many more
pub length-after : (book : Book) (ops : List Op) → length (fold after book ops).journal ≡ length book.journal + length ops
length-after book ops = rw (after-added book ops, length-append, length-added book ops) refl

-- and without these the book is as it was
pub after-taken_back : (book : Book) (ops : List Op) → without_last (fold after book ops) (length ops) ≡ book
after-taken_back book ops =
    let added_is = length-added book ops in
    let all = length-append book.journal (added book ops) in
    let rest : length (book.journal ++ added book ops) - length ops ≡ length book.journal = omega arith in
    rw (after-added book ops, rest, take-append_seam book.journal (added book ops)) refl
