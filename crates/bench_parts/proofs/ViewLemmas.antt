-- What parts have at their places.
use Rattle.std.proofs.Common.{◌≡◌, ◌∙◌, ◌+◌, ◌<◌, ◌≤◌, ℕ, zero, suc, List, [], ◌∷◌, true, length, map, take, get_or, refl, ap, sym, arith}
use Rattle.std.specs.Prelude.{flat_map, nat_lt, option_to_list, slice_get}
use Rattle.std.proofs.lemmas.Bool.{lt-ltb}
use Rattle.std.proofs.lemmas.List.{flat_map_more, length-append, take_more}
use Rattle.std.proofs.lemmas.List.Folds.{length-flat_map-take}
use Rattle.bench_item.specs.declared.entry.Entry.{Entry}
use Rattle.bench_item.specs.declared.limit.TheConstants.{MAX_ENTRIES}
use Rattle.bench_spec.specs.Merged.{Did, Stamped, entries_kept, stamp_of}
use Rattle.bench_parts.specs.Views.{entries_in, entries_there, kept_of, stamped_of}
use Rattle.bench_parts.specs.declared.view.Lent.{Lent}
use Rattle.bench_parts.specs.declared.view.Note.{Note}

-- what stands at a place of entries with stamps, where there is a stamp, and where there is none
pub at_stamp : (ss : List ℕ) (es : List Entry) (place : ℕ) → place < length ss
    → option_to_list (slice_get es place) ≡ entries_there (map Did (stamped_of ss es)) place
at_stamp [] es place l = absurd (omega (arith, l))
at_stamp (s ∷ ss) [] place l = refl
at_stamp (s ∷ ss) (e ∷ es) zero l = refl
at_stamp (s ∷ ss) (e ∷ es) (suc place) l = at_stamp ss es place (omega (arith, l))

pub past_stamps : (ss : List ℕ) (es : List Entry) (place : ℕ) → length ss ≤ place
    → [] ≡ entries_there (map Did (stamped_of ss es)) place
past_stamps [] es place l = refl
past_stamps (s ∷ ss) [] place l = refl
past_stamps (s ∷ ss) (e ∷ es) zero l = absurd (omega (arith, l))
past_stamps (s ∷ ss) (e ∷ es) (suc place) l = past_stamps ss es place (omega (arith, l))

-- as many entries have a stamp as there are stamps, or entries
pub count_by_stamps : (ss : List ℕ) (es : List Entry) → length ss ≤ length es → length ss ≡ length (stamped_of ss es)
count_by_stamps [] es l = refl
count_by_stamps (s ∷ ss) [] l = absurd (omega (arith, l))
count_by_stamps (s ∷ ss) (e ∷ es) l = ap suc (count_by_stamps ss es (omega (arith, l)))

pub count_by_entries : (ss : List ℕ) (es : List Entry) → length es ≤ length ss → length es ≡ length (stamped_of ss es)
count_by_entries [] [] l = refl
count_by_entries [] (e ∷ es) l = absurd (omega (arith, l))
count_by_entries (s ∷ ss) [] l = refl
count_by_entries (s ∷ ss) (e ∷ es) l = ap suc (count_by_entries ss es (omega (arith, l)))

-- their stamps, and how many there are
pub stamps_are : (ss : List ℕ) (es : List Entry)
    → take (length (stamped_of ss es)) ss ≡ map stamp_of (map Did (stamped_of ss es))
stamps_are [] es = refl
stamps_are (s ∷ ss) [] = refl
stamps_are (s ∷ ss) (e ∷ es) = ap (λ xs. s ∷ xs) (stamps_are ss es)

pub count_within : (ss : List ℕ) (es : List Entry) → length (stamped_of ss es) ≤ length ss
count_within [] es = omega arith
count_within (s ∷ ss) [] = omega arith
count_within (s ∷ ss) (e ∷ es) = let less = count_within ss es in omega (arith, less)

pub count_is : (xs : List Stamped) → length xs ≡ length (flat_map entries_kept (map Did xs))
count_is [] = refl
count_is (x ∷ xs) = ap suc (count_is xs)

-- one more
pub count_more : {X Y : Type 0} (f : X → List Y) (xs : List X) (i : ℕ) (d : X) → i < length xs
    → length (flat_map f (take (i + 1) xs)) ≡ length (flat_map f (take i xs)) + length (f (get_or xs i d))
count_more f xs i d l =
    ap (λ ys. length (flat_map f ys)) (take_more xs i d l)
    ∙ ap length (sym (flat_map_more f [] (take i xs) (get_or xs i d)))
    ∙ length-append (flat_map f (take i xs)) (f (get_or xs i d))

-- so many are past the limit
pub over : (left count : ℕ) (parts : List Lent) (i : ℕ) (d : Lent)
    → left + length (flat_map entries_in (take i parts)) ≡ MAX_ENTRIES → count ≡ length (entries_in (get_or parts i d))
    → left < count → i < length parts → true ≡ nat_lt MAX_ENTRIES (length (flat_map entries_in parts))
over left count parts i d sum is more within =
    let all = length-flat_map-take entries_in parts i d within in
    sym (lt-ltb MAX_ENTRIES (length (flat_map entries_in parts)) (omega (arith, all, sum, is, more)))

-- the stamps of what a desk kept
pub stamps_kept_are : (notes : List Note) → map (λ note. stamp_of (kept_of note)) notes ≡ map stamp_of (map kept_of notes)
stamps_kept_are [] = refl
stamps_kept_are (n ∷ ns) = ap (λ xs. stamp_of (kept_of n) ∷ xs) (stamps_kept_are ns)
