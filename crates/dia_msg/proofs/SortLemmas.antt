-- Sorting, an AVP at a time.
use Rattle.std.proofs.Common.{◌≡◌, ◌≢◌, ◌==◌, ◌&&◌, ◌||◌, ℕ, zero, suc, ◌+◌, ◌<◌, ◌≤◌, Bool, true, false, cond, not, List, [], ◌∷◌, ◌++◌, length, get_or, set, filter, Option, None, Some, All, refl, sym, ap, subst, ◌∙◌, arith, append_assoc}
use Rattle.std.specs.Prelude.{slice_get, is_none, is_some, take, replicate}
use Rattle.std.specs.Option.{option_to_list}
use Rattle.std.proofs.lemmas.Bool.{eqb-true, eqb-false}
use Rattle.std.proofs.lemmas.List.{append-nil, length-append, get_or-set_same, get_or-set_other}
use Rattle.std.proofs.lemmas.Option.{get_or_from_slice_get, slice_get_within, slice_get-get_or}
use Rattle.std.proofs.lemmas.List.Elements.{All-nil, All-cons, All-head, All-tail, filter-append}
use Rattle.std.proofs.Math.Seq.{take-suc}
use Rattle.std.proofs.lemmas.List.{map-append, length-map}
use Rattle.dia_avp.specs.declared.avp.Avp.{Avp}
use Rattle.dia_avp.specs.declared.avp.AvpView.{AvpView}
use Rattle.dia_avp.specs.View.{seen}
use Rattle.dia_avp.specs.Look.{is_coded}
use Rattle.dia_command.specs.declared.format.AvpFormat.{AvpFormat}
use Rattle.dia_msg.specs.declared.sorting.Sorted.{Sorted}
use Rattle.dia_msg.specs.Taken.{is_for, first_of, without_first, left_by, untaken, is_new, is_distinct}
use Rattle.dia_msg.specs.Sorting.{seen_all, IsEntry, placed, all_placed, Sorts}
use Rattle.dia_msg.proofs.SpreadLemmas.{Test, apart_codes, stay, fails_from, both_are, leaves}

-- whether an entry takes an AVP that comes behind others
abbrev takes : AvpFormat → List Avp → Avp → Bool
takes f front a = is_for f a && (f.several || is_none (first_of f.code front))

abbrev kept : Bool → Avp → List Avp
kept taken a = cond taken [] (a ∷ [])

one_more : (p : Test) (xs : List Avp) (a : Avp) → filter p (xs ++ a ∷ []) ≡ filter p xs ++ cond (p a) (a ∷ []) []
one_more p xs a = filter-append p xs (a ∷ [])

abbrev first_passing : Test → List Avp → Option Avp
first_passing p xs = slice_get (filter p xs) 0

passed : (c : Bool) (a : Avp) (xs : List Avp) → xs ++ a ∷ [] ≡ xs ++ kept (c && false) a
passed true a xs = refl
passed false a xs = refl

without_last : (p : Test) (x : Avp) (xs : List Avp) (a : Avp) (b : Bool) → p x ≡ b → without_first p (xs ++ a ∷ []) ≡ without_first p xs ++ kept (p a && is_none (first_passing p xs)) a
    → without_first p (x ∷ xs ++ a ∷ []) ≡ without_first p (x ∷ xs) ++ kept (p a && is_none (first_passing p (x ∷ xs))) a
without_last p x xs a true e next = rw e (passed (p a) a xs)
without_last p x xs a false e next = rw e (ap (λ (l : List Avp). x ∷ l) next)

not_kept : (b : Bool) (a : Avp) → cond (not b) (a ∷ []) [] ≡ kept (b && true) a
not_kept true a = refl
not_kept false a = refl

only_kept : (b : Bool) (a : Avp) → cond b [] (a ∷ []) ≡ kept (b && true) a
only_kept true a = refl
only_kept false a = refl

leaves-more : (several : Bool) (p : Test) (xs : List Avp) (a : Avp) → leaves several p (xs ++ a ∷ []) ≡ leaves several p xs ++ kept (p a && (several || is_none (first_passing p xs))) a
leaves-more true p xs a = filter-append (λ x. not (p x)) xs (a ∷ []) ∙ ap (λ (l : List Avp). filter (λ x. not (p x)) xs ++ l) (not_kept (p a) a)
leaves-more false p [] a = only_kept (p a) a
leaves-more false p (x ∷ xs) a = without_last p x xs a (p x) refl (leaves-more false p xs a)

left_by-more : (f : AvpFormat) (xs : List Avp) (a : Avp) → left_by f (xs ++ a ∷ []) ≡ left_by f xs ++ kept (takes f xs a) a
left_by-more f xs a = leaves-more f.several (is_for f) xs a

left_by-other : (f : AvpFormat) (xs : List Avp) (a : Avp) → is_for f a ≡ false → left_by f (xs ++ a ∷ []) ≡ left_by f xs ++ a ∷ []
left_by-other f xs a e = left_by-more f xs a ∙ rw e refl

-- an AVP that no entry is for is left
untaken-none : (fs : List AvpFormat) (xs : List Avp) (a : Avp) → All (λ f. is_for f a ≡ false) fs → untaken fs (xs ++ a ∷ []) ≡ untaken fs xs ++ a ∷ []
untaken-none [] xs a h = refl
untaken-none (f ∷ fs) xs a h =
    ap (untaken fs) (left_by-other f xs a (All-head (λ g. is_for g a ≡ false) f fs h)) ∙ untaken-none fs (left_by f xs) a (All-tail (λ g. is_for g a ≡ false) f fs h)

-- an AVP that one entry is for is one for no other
apart_from : (g f : ℕ) (a : Avp) (b : Bool) → is_coded g a ≡ b → (g == f) ≡ false → is_coded f a ≡ true → b ≡ false
apart_from g f a true e differ own = let h : is_coded f a ≡ false = apart_codes f g differ a e in absurd cc
apart_from g f a false e differ own = refl

others_new : (f : AvpFormat) (fs : List AvpFormat) (a : Avp) → is_new f fs ≡ true → is_for f a ≡ true → All (λ g. is_for g a ≡ false) fs
others_new f [] a e own = All-nil (λ g. is_for g a ≡ false)
others_new f (g ∷ fs) a e own =
    let h = both_are (not (f.code == g.code)) (is_new f fs) e in
    All-cons (λ x. is_for x a ≡ false) g fs (apart_codes g.code f.code (fails_from (f.code == g.code) h.0) a own) (others_new f fs a h.1 own)

new_at : (g : AvpFormat) (fs : List AvpFormat) (k : ℕ) (f : AvpFormat) → is_new g fs ≡ true → slice_get fs k ≡ Some f → (g.code == f.code) ≡ false
new_at g [] k f e at = absurd cc
new_at g (x ∷ fs) zero f e at =
    let same : x ≡ f = cc in
    rw (← same) (fails_from (g.code == x.code) (both_are (not (g.code == x.code)) (is_new g fs) e).0)
new_at g (x ∷ fs) (suc k) f e at = new_at g fs k f (both_are (not (g.code == x.code)) (is_new g fs) e).1 at

-- whether it is left the entry says that is for it
keeps : (fs : List AvpFormat) (f : AvpFormat) (xs : List Avp) (a : Avp) (b : Bool) → All (λ g. is_for g a ≡ false) fs → untaken fs (xs ++ kept b a) ≡ untaken fs xs ++ kept b a
keeps fs f xs a true h = rw (append-nil xs, append-nil (untaken fs xs)) refl
keeps fs f xs a false h = untaken-none fs xs a h

untaken-one : (fs : List AvpFormat) (k : ℕ) (f : AvpFormat) (xs : List Avp) (a : Avp) → is_distinct fs ≡ true → slice_get fs k ≡ Some f → is_for f a ≡ true → untaken fs (xs ++ a ∷ []) ≡ untaken fs xs ++ kept (takes f xs a) a
untaken-one [] k f xs a d at own = absurd cc
untaken-one (g ∷ fs) zero f xs a d at own =
    let h = both_are (is_new g fs) (is_distinct fs) d in
    let same : g ≡ f = cc in
    let e : is_for g a ≡ true = rw same own in
    ap (untaken fs) (left_by-more g xs a) ∙ keeps fs g (left_by g xs) a (takes g xs a) (others_new g fs a h.0 e) ∙ ap (λ (x : AvpFormat). untaken fs (left_by g xs) ++ kept (takes x xs a) a) same
untaken-one (g ∷ fs) (suc k) f xs a d at own =
    let h = both_are (is_new g fs) (is_distinct fs) d in
    let differ = new_at g fs k f h.0 at in
    let e = apart_from g.code f.code a (is_for g a) refl differ own in
    let same : filter (is_coded f.code) (left_by g xs) ≡ filter (is_coded f.code) xs = stay g.several (is_coded f.code) (is_for g) xs (apart_codes f.code g.code differ) in
    ap (untaken fs) (left_by-other g xs a e) ∙ untaken-one fs k f (left_by g xs) a h.1 at own
    ∙ ap (λ (l : List Avp). untaken fs (left_by g xs) ++ kept (is_for f a && (f.several || is_none (slice_get l 0))) a) same

-- the first of a code
first-other : (code : ℕ) (xs : List Avp) (a : Avp) → is_coded code a ≡ false → first_of code (xs ++ a ∷ []) ≡ first_of code xs
first-other code xs a e = ap (λ (l : List Avp). slice_get l 0) (one_more (is_coded code) xs a ∙ rw e (append-nil (filter (is_coded code) xs)))

front_first : (l m : List Avp) → is_some (slice_get l 0) ≡ true → slice_get (l ++ m) 0 ≡ slice_get l 0
front_first [] m e = absurd cc
front_first (x ∷ l) m e = refl

none_front : (l m : List Avp) → is_some (slice_get l 0) ≡ false → slice_get (l ++ m) 0 ≡ slice_get m 0
none_front [] m e = refl
none_front (x ∷ l) m e = absurd cc

first-there : (code : ℕ) (xs : List Avp) (a : Avp) → is_some (first_of code xs) ≡ true → first_of code (xs ++ a ∷ []) ≡ first_of code xs
first-there code xs a e = ap (λ (l : List Avp). slice_get l 0) (one_more (is_coded code) xs a) ∙ front_first (filter (is_coded code) xs) _ e

first-new : (code : ℕ) (xs : List Avp) (a : Avp) → is_some (first_of code xs) ≡ false → is_coded code a ≡ true → first_of code (xs ++ a ∷ []) ≡ Some a
first-new code xs a e own = ap (λ (l : List Avp). slice_get l 0) (one_more (is_coded code) xs a) ∙ none_front (filter (is_coded code) xs) _ e ∙ rw own refl

all_placed-more : (list : List Avp) (places : List ℕ) (i : ℕ) (a : Avp) → slice_get list i ≡ Some a → all_placed list (places ++ i ∷ []) ≡ all_placed list places ++ a ∷ []
all_placed-more list [] i a e = rw e refl
all_placed-more list (p ∷ places) i a e =
    ap (λ (l : List Avp). option_to_list (slice_get list p) ++ l) (all_placed-more list places i a e) ∙ sym (append_assoc (option_to_list (slice_get list p)) (all_placed list places) (a ∷ []))

left_by-nil : (b : Bool) (f : AvpFormat) → f.several ≡ b → left_by f [] ≡ []
left_by-nil true f e = rw e refl
left_by-nil false f e = rw e refl

untaken-nil : (fs : List AvpFormat) → untaken fs [] ≡ []
untaken-nil [] = refl
untaken-nil (f ∷ fs) = ap (untaken fs) (left_by-nil f.several f refl) ∙ untaken-nil fs

All-at : (a : Avp) (fs : List AvpFormat) (k : ℕ) (f : AvpFormat) → slice_get fs k ≡ Some f → All (λ g. is_for g a ≡ false) fs → is_for f a ≡ false
All-at a fs k f e h = rw (sym (get_or_from_slice_get fs k f f e)) (h k f (slice_get_within fs k f e))

abbrev pub empty_place : Option ℕ
empty_place = None

replicate_none : (n k : ℕ) → get_or (replicate n empty_place) k None ≡ None
replicate_none zero k = refl
replicate_none (suc n) zero = refl
replicate_none (suc n) (suc k) = replicate_none n k

-- nothing is sorted yet
pub Sorts-start : (fs : List AvpFormat) (list : List Avp) (s : Sorted) → ((k : ℕ) → get_or s.firsts k None ≡ None) → s.rest.items ≡ [] → Sorts fs list [] s
Sorts-start fs list s none empty = record {
  firsts = λ k f at. rw (none k) refl;
  there = λ k f at. rw (none k) refl;
  rest = rw empty (sym (untaken-nil fs));
  few = rw empty (omega arith);
}

-- room that is empty
pub none_at : (k : ℕ) → get_or (replicate 16 empty_place) k None ≡ None
none_at k = replicate_none 16 k

-- no entry is for it
pub Sorts-none : (fs : List AvpFormat) (list front : List Avp) (s t : Sorted) (i : ℕ) (a : Avp) → Sorts fs list front s → slice_get list i ≡ Some a → All (λ f. is_for f a ≡ false) fs
    → t.firsts ≡ s.firsts → t.rest.items ≡ s.rest.items ++ i ∷ [] → Sorts fs list (front ++ a ∷ []) t
Sorts-none fs list front s t i a h at none firsts rest = record {
  firsts = λ k f e. rw firsts (h.firsts k f e ∙ sym (first-other f.code front a (All-at a fs k f e none)));
  there = λ k f e. rw firsts (h.there k f e ∙ ap (λ (o : Option Avp). is_some o) (sym (first-other f.code front a (All-at a fs k f e none))));
  rest = rw rest (all_placed-more list s.rest.items i a at ∙ ap (λ (l : List Avp). l ++ a ∷ []) h.rest ∙ sym (untaken-none fs front a none));
  few = rw rest (omega (arith, h.few, length-append s.rest.items (i ∷ []), length-append front (a ∷ [])));
}

apart_at : (a : Avp) (fs : List AvpFormat) (j : ℕ) (g : AvpFormat) (k : ℕ) (f : AvpFormat) → is_distinct fs ≡ true → slice_get fs j ≡ Some g → slice_get fs k ≡ Some f → j ≢ k → is_for f a ≡ true → is_for g a ≡ false
apart_at a [] j g k f d m n differ own = absurd cc
apart_at a (x ∷ fs) zero g zero f d m n differ own = absurd (differ refl)
apart_at a (x ∷ fs) zero g (suc k) f d m n differ own =
    let same : x ≡ g = cc in
    apart_from g.code f.code a (is_for g a) refl (rw (← same) (new_at x fs k f (both_are (is_new x fs) (is_distinct fs) d).0 n)) own
apart_at a (x ∷ fs) (suc j) g zero f d m n differ own =
    let same : x ≡ f = cc in
    apart_codes g.code f.code (rw (← same) (new_at x fs j g (both_are (is_new x fs) (is_distinct fs) d).0 m)) a own
apart_at a (x ∷ fs) (suc j) g (suc k) f d m n differ own =
    apart_at a fs j g k f (both_are (is_new x fs) (is_distinct fs) d).1 m n (λ e. differ (ap suc e)) own

same_at : (fs : List AvpFormat) (j : ℕ) (g : AvpFormat) (k : ℕ) (f : AvpFormat) → slice_get fs j ≡ Some g → slice_get fs k ≡ Some f → j ≡ k → g ≡ f
same_at fs j g k f m n e = let o : slice_get fs k ≡ Some g = subst (λ (i : ℕ). slice_get fs i ≡ Some g) e m in cc

abbrev with_first : List (Option ℕ) → ℕ → ℕ → List (Option ℕ)
with_first firsts k i = set firsts k (Some i)

firsts_set : (fs : List AvpFormat) (list front : List Avp) (firsts : List (Option ℕ)) (i k : ℕ) (f : AvpFormat) (a : Avp) (j : ℕ) (g : AvpFormat) (b : Bool) → (j == k) ≡ b → is_distinct fs ≡ true → k < length firsts
    → slice_get list i ≡ Some a → slice_get fs k ≡ Some f → is_for f a ≡ true → is_some (first_of f.code front) ≡ false → slice_get fs j ≡ Some g
    → placed list (get_or firsts j None) ≡ first_of g.code front → is_some (get_or firsts j None) ≡ is_some (first_of g.code front)
    → (placed list (get_or (with_first firsts k i) j None) ≡ first_of g.code (front ++ a ∷ [])) × (is_some (get_or (with_first firsts k i) j None) ≡ is_some (first_of g.code (front ++ a ∷ [])))
firsts_set fs list front firsts i k f a j g true e d lt at n own none m h t =
    let is : j ≡ k = eqb-true j k e in
    let same = same_at fs j g k f m n is in
    let now : first_of g.code (front ++ a ∷ []) ≡ Some a = ap (λ (x : AvpFormat). first_of x.code (front ++ a ∷ [])) same ∙ first-new f.code front a none own in
    (rw (now, is, get_or-set_same firsts k (Some i) None lt) at, rw (now, is, get_or-set_same firsts k (Some i) None lt) refl)
firsts_set fs list front firsts i k f a j g false e d lt at n own none m h t =
    let differ : j ≢ k = eqb-false j k e in
    let as_was = first-other g.code front a (apart_at a fs j g k f d m n differ own) in
    (rw (as_was, get_or-set_other firsts k j (Some i) None differ) h, rw (as_was, get_or-set_other firsts k j (Some i) None differ) t)

abbrev pub no_format : AvpFormat
no_format = record { code = 0; required = false; several = false }

taken_first : (own several : Bool) (first : Option Avp) → own ≡ true → is_some first ≡ false → (own && (several || is_none first)) ≡ true
taken_first true true first e none = refl
taken_first true false None e none = refl
taken_first true false (Some x) e none = absurd cc
taken_first false several first e none = absurd cc

taken_again : (own several : Bool) (first : Option Avp) → own ≡ true → is_some first ≡ true → (own && (several || is_none first)) ≡ several
taken_again true true first e some = refl
taken_again true false None e some = absurd cc
taken_again true false (Some x) e some = refl
taken_again false several first e some = absurd cc

firsts_stay : (fs : List AvpFormat) (front : List Avp) (k : ℕ) (f : AvpFormat) (a : Avp) (j : ℕ) (g : AvpFormat) (b : Bool) → (j == k) ≡ b → is_distinct fs ≡ true → slice_get fs k ≡ Some f → is_for f a ≡ true → is_some (first_of f.code front) ≡ true
    → slice_get fs j ≡ Some g → first_of g.code (front ++ a ∷ []) ≡ first_of g.code front
firsts_stay fs front k f a j g true e d n own there m =
    let same = same_at fs j g k f m n (eqb-true j k e) in
    first-there g.code front a (ap (λ (x : AvpFormat). is_some (first_of x.code front)) same ∙ there)
firsts_stay fs front k f a j g false e d n own there m = first-other g.code front a (apart_at a fs j g k f d m n (eqb-false j k e) own)

left_one : (b : Bool) (list : List Avp) (places : List ℕ) (i : ℕ) (a : Avp) → slice_get list i ≡ Some a → all_placed list (places ++ cond b [] (i ∷ [])) ≡ all_placed list places ++ kept b a
left_one true list places i a at = ap (all_placed list) (append-nil places) ∙ sym (append-nil (all_placed list places))
left_one false list places i a at = all_placed-more list places i a at

left_few : (b : Bool) (places : List ℕ) (i : ℕ) → length (places ++ cond b [] (i ∷ [])) ≤ length places + 1
left_few true places i = omega (arith, ap (λ (l : List ℕ). length l) (append-nil places))
left_few false places i = omega (arith, length-append places (i ∷ []))

-- it is the first of an entry
pub Sorts-first : (fs : List AvpFormat) (list front : List Avp) (s t : Sorted) (i k : ℕ) (a : Avp) → Sorts fs list front s → slice_get list i ≡ Some a → is_distinct fs ≡ true → IsEntry fs a k → k < length s.firsts
    → is_some (get_or s.firsts k None) ≡ false → t.firsts ≡ with_first s.firsts k i → t.rest.items ≡ s.rest.items → Sorts fs list (front ++ a ∷ []) t
Sorts-first fs list front s t i k a h at d entry lt none firsts rest =
    let f = get_or fs k no_format in
    let n : slice_get fs k ≡ Some f = slice_get-get_or fs k no_format entry.0 in
    let own : is_for f a ≡ true = entry.1 no_format in
    let empty : is_some (first_of f.code front) ≡ false = sym (h.there k f n) ∙ none in
    let new = λ (j : ℕ) (g : AvpFormat) (m : slice_get fs j ≡ Some g). firsts_set fs list front s.firsts i k f a j g (j == k) refl d lt at n own empty m (h.firsts j g m) (h.there j g m) in
    record {
      firsts = λ j g m. rw firsts (new j g m).0;
      there = λ j g m. rw firsts (new j g m).1;
      rest =
          rw rest (h.rest ∙ sym (untaken-one fs k f front a d n own ∙ ap (λ (b : Bool). untaken fs front ++ kept b a) (taken_first (is_for f a) f.several (first_of f.code front) own empty) ∙ append-nil (untaken fs front)));
      few = rw rest (omega (arith, h.few, length-append front (a ∷ [])));
    }

-- its entry has one already: it is left where only one may stand
pub Sorts-again : (fs : List AvpFormat) (list front : List Avp) (s t : Sorted) (i k : ℕ) (several : Bool) (a : Avp) → Sorts fs list front s → slice_get list i ≡ Some a → is_distinct fs ≡ true → IsEntry fs a k
    → is_some (get_or s.firsts k None) ≡ true → (get_or fs k no_format).several ≡ several → t.firsts ≡ s.firsts → t.rest.items ≡ s.rest.items ++ cond several [] (i ∷ []) → Sorts fs list (front ++ a ∷ []) t
Sorts-again fs list front s t i k several a h at d entry some is firsts rest =
    let f = get_or fs k no_format in
    let n : slice_get fs k ≡ Some f = slice_get-get_or fs k no_format entry.0 in
    let own : is_for f a ≡ true = entry.1 no_format in
    let there : is_some (first_of f.code front) ≡ true = sym (h.there k f n) ∙ some in
    let new = λ (j : ℕ) (g : AvpFormat) (m : slice_get fs j ≡ Some g). firsts_stay fs front k f a j g (j == k) refl d n own there m in
    record {
      firsts = λ j g m. rw (firsts, new j g m) (h.firsts j g m);
      there = λ j g m. rw (firsts, new j g m) (h.there j g m);
      rest =
          rw rest (left_one several list s.rest.items i a at ∙ ap (λ (l : List Avp). l ++ kept several a) h.rest
          ∙ sym (untaken-one fs k f front a d n own ∙ ap (λ (b : Bool). untaken fs front ++ kept b a) (taken_again (is_for f a) f.several (first_of f.code front) own there ∙ is)));
      few = rw rest (omega (arith, h.few, left_few several s.rest.items i, length-append front (a ∷ [])));
    }

-- one more AVP where it was read
get-mapped : (avps : List AvpView) (i : ℕ) (d : AvpView) → i < length avps → slice_get (seen_all avps) i ≡ Some (seen (get_or avps i d))
get-mapped [] i d lt = absurd (omega arith)
get-mapped (v ∷ avps) zero d lt = refl
get-mapped (v ∷ avps) (suc i) d lt = get-mapped avps i d (omega arith)

pub front-more : (avps : List AvpView) (i : ℕ) (d : AvpView) → i < length avps → seen_all (take i avps) ++ seen (get_or avps i d) ∷ [] ≡ seen_all (take (i + 1) avps)
front-more avps i d lt =
    let e : i + 1 ≡ suc i = omega arith in
    rw (e, take-suc avps i d lt) (sym (map-append seen (take i avps) (get_or avps i d ∷ [])))

abbrev SortsTo : List AvpFormat → List AvpView → ℕ → Sorted → Type 0
SortsTo fs avps i s = Sorts fs (seen_all avps) (seen_all (take i avps)) s

pub next_none : (fs : List AvpFormat) (avps : List AvpView) (s t : Sorted) (i : ℕ) (d : AvpView) → SortsTo fs avps i s → i < length avps → All (λ f. is_for f (seen (get_or avps i d)) ≡ false) fs
    → t.firsts ≡ s.firsts → t.rest.items ≡ s.rest.items ++ i ∷ [] → SortsTo fs avps (i + 1) t
next_none fs avps s t i d h lt none firsts rest =
    subst (λ (l : List Avp). Sorts fs (seen_all avps) l t) (front-more avps i d lt)
    (Sorts-none fs (seen_all avps) (seen_all (take i avps)) s t i (seen (get_or avps i d)) h (get-mapped avps i d lt) none firsts rest)

pub next_first : (fs : List AvpFormat) (avps : List AvpView) (s t : Sorted) (i k : ℕ) (d : AvpView) → SortsTo fs avps i s → i < length avps → is_distinct fs ≡ true → IsEntry fs (seen (get_or avps i d)) k → k < length s.firsts
    → is_some (get_or s.firsts k None) ≡ false → t.firsts ≡ with_first s.firsts k i → t.rest.items ≡ s.rest.items → SortsTo fs avps (i + 1) t
next_first fs avps s t i k d h lt distinct entry room none firsts rest =
    subst (λ (l : List Avp). Sorts fs (seen_all avps) l t) (front-more avps i d lt)
    (Sorts-first fs (seen_all avps) (seen_all (take i avps)) s t i k (seen (get_or avps i d)) h (get-mapped avps i d lt) distinct entry room none firsts rest)

pub next_again : (fs : List AvpFormat) (avps : List AvpView) (s t : Sorted) (i k : ℕ) (several : Bool) (d : AvpView) → SortsTo fs avps i s → i < length avps → is_distinct fs ≡ true → IsEntry fs (seen (get_or avps i d)) k
    → is_some (get_or s.firsts k None) ≡ true → (get_or fs k no_format).several ≡ several → t.firsts ≡ s.firsts → t.rest.items ≡ s.rest.items ++ cond several [] (i ∷ []) → SortsTo fs avps (i + 1) t
next_again fs avps s t i k several d h lt distinct entry some is firsts rest =
    subst (λ (l : List Avp). Sorts fs (seen_all avps) l t) (front-more avps i d lt)
    (Sorts-again fs (seen_all avps) (seen_all (take i avps)) s t i k several (seen (get_or avps i d)) h (get-mapped avps i d lt) distinct entry some is firsts rest)

length_front : (i : ℕ) (avps : List AvpView) → length (take i avps) ≤ i
length_front zero avps = omega arith
length_front (suc i) [] = omega arith
length_front (suc i) (v ∷ avps) = omega (arith, length_front i avps)

-- how many are left
pub rest_few : (fs : List AvpFormat) (avps : List AvpView) (i : ℕ) (s : Sorted) → SortsTo fs avps i s → length s.rest.items ≤ i
rest_few fs avps i s h = omega (arith, h.few, length-map (take i avps) seen, length_front i avps)
