-- A list that is written in the order of formats is taken apart as before.
use Rattle.std.proofs.Common.{◌≡◌, ◌==◌, ◌&&◌, ℕ, ◌+◌, Bool, true, false, cond, not, List, [], ◌∷◌, ◌++◌, take, filter, All, refl, ap, subst, ◌∙◌, arith, append_assoc}
use Rattle.std.specs.Prelude.{sum_by, is_none}
use Rattle.std.specs.List.{flat_map}
use Rattle.std.proofs.lemmas.Bool.{eqb-true}
use Rattle.std.proofs.lemmas.List.{append-nil}
use Rattle.std.proofs.lemmas.List.Elements.{All-nil, All-cons, All-head, All-tail, All-append, All-filter, All-take, All-weaker, filter-append, filter_passes}
use Rattle.std.proofs.lemmas.List.Filters.{sum_by-filter_both}
use Rattle.std.proofs.lemmas.List.Sums.{sum_by-append, sum_by-cons}
use Rattle.dia_avp.specs.declared.avp.Avp.{Avp}
use Rattle.dia_avp.specs.Look.{is_coded}
use Rattle.dia_command.specs.declared.format.AvpFormat.{AvpFormat}
use Rattle.dia_msg.specs.Taken.{is_for, taken, left_by, without_first, groups, untaken, is_new, is_distinct}

abbrev pub Test : Type 0
Test = Avp → Bool

-- what an entry takes and leaves, by whether several may stand
abbrev pub took : Bool → Test → List Avp → List Avp
took several p list = cond several (filter p list) (take 1 (filter p list))

abbrev pub leaves : Bool → Test → List Avp → List Avp
leaves several p list = cond several (filter (λ a. not (p a)) list) (without_first p list)

-- no AVP passes, all pass
abbrev Fails : Test → List Avp → Type 0
Fails p list = All (λ a. p a ≡ false) list

abbrev Passes : Test → List Avp → Type 0
Passes p list = All (λ a. p a ≡ true) list

keep_or_drop : (P : Avp → Type 0) (p : Test) (a : Avp) (list : List Avp) (b : Bool) → p a ≡ b → All P list → P a → All P (without_first p list) → All P (without_first p (a ∷ list))
keep_or_drop P p a list true e h own next = rw e h
keep_or_drop P p a list false e h own next = rw e (All-cons P a (without_first p list) own next)

without_first-All : (P : Avp → Type 0) (p : Test) (list : List Avp) → All P list → All P (without_first p list)
without_first-All P p [] h = h
without_first-All P p (a ∷ list) h = keep_or_drop P p a list (p a) refl (All-tail P a list h) (All-head P a list h) (without_first-All P p list (All-tail P a list h))

pub took-All : (P : Avp → Type 0) (several : Bool) (p : Test) (list : List Avp) → All P list → All P (took several p list)
took-All P true p list h = All-filter p P list h
took-All P false p list h = All-take P 1 (filter p list) (All-filter p P list h)

pub took-Passes : (several : Bool) (p : Test) (list : List Avp) → Passes p (took several p list)
took-Passes true p list = filter_passes p list
took-Passes false p list = All-take (λ a. p a ≡ true) 1 (filter p list) (filter_passes p list)

pub leaves-All : (P : Avp → Type 0) (several : Bool) (p : Test) (list : List Avp) → All P list → All P (leaves several p list)
leaves-All P true p list h = All-filter (λ a. not (p a)) P list h
leaves-All P false p list h = without_first-All P p list h

head_sum : (f : Avp → ℕ) (p : Test) (a : Avp) (list : List Avp) (b : Bool) → p a ≡ b → sum_by f (took false p list) + sum_by f (leaves false p list) ≡ sum_by f list
    → sum_by f (took false p (a ∷ list)) + sum_by f (leaves false p (a ∷ list)) ≡ sum_by f (a ∷ list)
head_sum f p a list true e n = rw e (omega (arith, sum_by-cons f a list))
head_sum f p a list false e n = rw e (omega (arith, n, sum_by-cons f a list, sum_by-cons f a (without_first p list)))

-- a sum over the AVPs is one over those taken and those left
took-sum : (f : Avp → ℕ) (several : Bool) (p : Test) (list : List Avp) → sum_by f (took several p list) + sum_by f (leaves several p list) ≡ sum_by f list
took-sum f true p list = sum_by-filter_both p (λ a. not (p a)) (λ a. refl) f list
took-sum f false p [] = refl
took-sum f false p (a ∷ list) = head_sum f p a list (p a) refl (took-sum f false p list)

fails-filter : (p : Test) (list : List Avp) → Fails p list → filter p list ≡ []
fails-filter p [] h = refl
fails-filter p (a ∷ list) h = rw (All-head (λ x. p x ≡ false) a list h) (fails-filter p list (All-tail (λ x. p x ≡ false) a list h))

fails-without : (p : Test) (list : List Avp) → Fails p list → without_first p list ≡ list
fails-without p [] h = refl
fails-without p (a ∷ list) h = rw (All-head (λ x. p x ≡ false) a list h) (ap (λ (l : List Avp). a ∷ l) (fails-without p list (All-tail (λ x. p x ≡ false) a list h)))

fails-not : (p : Test) (list : List Avp) → Fails p list → filter (λ a. not (p a)) list ≡ list
fails-not p [] h = refl
fails-not p (a ∷ list) h = rw (All-head (λ x. p x ≡ false) a list h) (ap (λ (l : List Avp). a ∷ l) (fails-not p list (All-tail (λ x. p x ≡ false) a list h)))

passes-filter : (p : Test) (list : List Avp) → Passes p list → filter p list ≡ list
passes-filter p [] h = refl
passes-filter p (a ∷ list) h = rw (All-head (λ x. p x ≡ true) a list h) (ap (λ (l : List Avp). a ∷ l) (passes-filter p list (All-tail (λ x. p x ≡ true) a list h)))

passes-not : (p : Test) (list : List Avp) → Passes p list → filter (λ a. not (p a)) list ≡ []
passes-not p [] h = refl
passes-not p (a ∷ list) h = rw (All-head (λ x. p x ≡ true) a list h) (passes-not p list (All-tail (λ x. p x ≡ true) a list h))

pub fails_from : (b : Bool) → not b ≡ true → b ≡ false
fails_from true e = cc
fails_from false e = refl

filter_not-fails : (p : Test) (list : List Avp) → Fails p (filter (λ a. not (p a)) list)
filter_not-fails p list = All-weaker (λ a. not (p a) ≡ true) (λ a. p a ≡ false) (λ a e. fails_from (p a) e) (filter (λ a. not (p a)) list) (filter_passes (λ a. not (p a)) list)

head_fails : (p : Test) (a : Avp) (list : List Avp) (b : Bool) → p a ≡ b → filter p (a ∷ list) ≡ [] → (filter p list ≡ [] → Fails p list) → Fails p (a ∷ list)
head_fails p a list true e h next = let k : a ∷ filter p list ≡ [] = rw e at h in absurd cc
head_fails p a list false e h next = All-cons (λ x. p x ≡ false) a list e (next (rw e at h))

filter_none-fails : (p : Test) (list : List Avp) → filter p list ≡ [] → Fails p list
filter_none-fails p [] h = All-nil (λ x. p x ≡ false)
filter_none-fails p (a ∷ list) h = head_fails p a list (p a) refl h (filter_none-fails p list)

-- what was taken is taken again before what comes after it, where that has none for the entry that was left
one_again : (p : Test) (list after found : List Avp) → filter p list ≡ found → (Fails p (without_first p list) → Fails p after)
    → (took false p (took false p list ++ after) ≡ took false p list) × (leaves false p (took false p list ++ after) ≡ after)
one_again p list after [] e h =
    let fails = filter_none-fails p list e in
    let none = h (rw (fails-without p list fails) fails) in
    (rw (e, fails-filter p after none) refl, rw (e, fails-without p after none) refl)
one_again p list after (a ∷ found) e h =
    let passes : p a ≡ true = All-head (λ x. p x ≡ true) a found (rw e at (filter_passes p list)) in
    (rw (e, passes) refl, rw (e, passes) refl)

again : (several : Bool) (p : Test) (list after : List Avp) → (Fails p (leaves several p list) → Fails p after)
    → (took several p (took several p list ++ after) ≡ took several p list) × (leaves several p (took several p list ++ after) ≡ after)
again true p list after h =
    let none = h (filter_not-fails p list) in
    let all = filter_passes p list in (
      rw (filter-append p (filter p list) after, passes-filter p (filter p list) all, fails-filter p after none) (append-nil (filter p list)),
      rw (filter-append (λ a. not (p a)) (filter p list) after, passes-not p (filter p list) all, fails-not p after none) refl,
    )
again false p list after h = one_again p list after (filter p list) refl h

-- the AVPs as they are written: those that each entry takes, then those that none takes
abbrev pub spread : List AvpFormat → List Avp → List Avp
spread [] list = list
spread (r ∷ formats) list = taken r list ++ spread formats (left_by r list)

-- what holds of each AVP holds of each that is left, and of each as written
pub untaken-All : (P : Avp → Type 0) (formats : List AvpFormat) (list : List Avp) → All P list → All P (untaken formats list)
untaken-All P [] list h = h
untaken-All P (r ∷ formats) list h = untaken-All P formats (left_by r list) (leaves-All P r.several (is_for r) list h)

pub spread-All : (P : Avp → Type 0) (formats : List AvpFormat) (list : List Avp) → All P list → All P (spread formats list)
spread-All P [] list h = h
spread-All P (r ∷ formats) list h =
    All-append P (taken r list) (spread formats (left_by r list)) (took-All P r.several (is_for r) list h) (spread-All P formats (left_by r list) (leaves-All P r.several (is_for r) list h))

-- a sum over the AVPs is the sum over them as written
pub spread-sum : (f : Avp → ℕ) (formats : List AvpFormat) (list : List Avp) → sum_by f (spread formats list) ≡ sum_by f list
spread-sum f [] list = refl
spread-sum f (r ∷ formats) list =
    omega (arith, sum_by-append f (taken r list) (spread formats (left_by r list)), spread-sum f formats (left_by r list), took-sum f r.several (is_for r) list)

rule_again : (r : AvpFormat) (formats : List AvpFormat) (list : List Avp) → (taken r (spread (r ∷ formats) list) ≡ taken r list) × (left_by r (spread (r ∷ formats) list) ≡ spread formats (left_by r list))
rule_again r formats list = again r.several (is_for r) list (spread formats (left_by r list)) (λ fails. spread-All (λ a. is_for r a ≡ false) formats (left_by r list) fails)

-- as written, the formats leave the same
pub untaken-spread : (formats : List AvpFormat) (list : List Avp) → untaken formats (spread formats list) ≡ untaken formats list
untaken-spread [] list = refl
untaken-spread (r ∷ formats) list = rw (rule_again r formats list).1 (untaken-spread formats (left_by r list))

-- those that pass are those taken and those left, where the entry's test is the same
one_own : (p : Test) (a : Avp) (list : List Avp) (b : Bool) → p a ≡ b → filter p (took false p list) ++ filter p (leaves false p list) ≡ filter p list
    → filter p (took false p (a ∷ list)) ++ filter p (leaves false p (a ∷ list)) ≡ filter p (a ∷ list)
one_own p a list true e next = rw (e, e) refl
one_own p a list false e next = rw (e, e) next

own : (several : Bool) (p : Test) (list : List Avp) → filter p (took several p list) ++ filter p (leaves several p list) ≡ filter p list
own true p list =
    rw (passes-filter p (filter p list) (filter_passes p list), fails-filter p (filter (λ a. not (p a)) list) (filter_not-fails p list)) (append-nil (filter p list))
own false p [] = refl
own false p (a ∷ list) = one_own p a list (p a) refl (own false p list)

-- where it is another, those that pass are all left
abbrev pub Apart : Test → Test → Type 0
Apart p q = (a : Avp) → q a ≡ true → p a ≡ false

keep_both : (p q : Test) (a : Avp) (list : List Avp) (b c : Bool) → p a ≡ b → q a ≡ c → Apart p q → filter p (filter (λ x. not (q x)) list) ≡ filter p list
    → filter p (filter (λ x. not (q x)) (a ∷ list)) ≡ filter p (a ∷ list)
keep_both p q a list true true e f apart next = let g = apart a f in absurd (cc)
keep_both p q a list false true e f apart next = rw (f, e) next
keep_both p q a list true false e f apart next = rw (f, e) (ap (λ (l : List Avp). a ∷ l) next)
keep_both p q a list false false e f apart next = rw (f, e) next

keep_one : (p q : Test) (a : Avp) (list : List Avp) (b c : Bool) → p a ≡ b → q a ≡ c → Apart p q → filter p (without_first q list) ≡ filter p list
    → filter p (without_first q (a ∷ list)) ≡ filter p (a ∷ list)
keep_one p q a list true true e f apart next = let g = apart a f in absurd (cc)
keep_one p q a list false true e f apart next = rw (f, e) refl
keep_one p q a list true false e f apart next = rw (f, e) (ap (λ (l : List Avp). a ∷ l) next)
keep_one p q a list false false e f apart next = rw (f, e) next

pub stay : (several : Bool) (p q : Test) (list : List Avp) → Apart p q → filter p (leaves several q list) ≡ filter p list
stay true p q [] apart = refl
stay true p q (a ∷ list) apart = keep_both p q a list (p a) (q a) refl refl apart (stay true p q list apart)
stay false p q [] apart = refl
stay false p q (a ∷ list) apart = keep_one p q a list (p a) (q a) refl refl apart (stay false p q list apart)

none_taken : (several : Bool) (p q : Test) (list : List Avp) → Apart p q → filter p (took several q list) ≡ []
none_taken several p q list apart =
    fails-filter p (took several q list) (All-weaker (λ a. q a ≡ true) (λ a. p a ≡ false) apart (took several q list) (took-Passes several q list))

other : (several : Bool) (p q : Test) (list : List Avp) → Apart p q → filter p (took several q list) ++ filter p (leaves several q list) ≡ filter p list
other several p q list apart = rw (none_taken several p q list apart, stay several p q list apart) refl

both_true : (a b : Bool) → (a && b) ≡ true → a ≡ true
both_true true b e = refl
both_true false b e = absurd cc

-- AVPs of another code are no AVPs of this
pub apart_codes : (code other : ℕ) → (other == code) ≡ false → Apart (is_coded code) (is_coded other)
apart_codes code other differ a e =
    let is : a.code ≡ other = eqb-true a.code other (both_true (a.code == other) (is_none a.vendor) e) in
    rw (is, differ) refl

coded_by : (b : Bool) (code : ℕ) (r : AvpFormat) (list : List Avp) → (r.code == code) ≡ b → filter (is_coded code) (taken r list) ++ filter (is_coded code) (left_by r list) ≡ filter (is_coded code) list
coded_by true code r list e =
    let same : r.code ≡ code = eqb-true r.code code e in
    subst (λ (n : ℕ). filter (is_coded n) (taken r list) ++ filter (is_coded n) (left_by r list) ≡ filter (is_coded n) list) same (own r.several (is_for r) list)
coded_by false code r list e = other r.several (is_coded code) (is_for r) list (apart_codes code r.code e)

-- as written, the AVPs of one code are in the same order
pub coded-spread : (code : ℕ) (formats : List AvpFormat) (list : List Avp) → filter (is_coded code) (spread formats list) ≡ filter (is_coded code) list
coded-spread code [] list = refl
coded-spread code (r ∷ formats) list =
    filter-append (is_coded code) (taken r list) (spread formats (left_by r list))
    ∙ ap (λ (l : List Avp). filter (is_coded code) (taken r list) ++ l) (coded-spread code formats (left_by r list))
    ∙ coded_by (r.code == code) code r list refl

pub taken-spread : (r : AvpFormat) (formats : List AvpFormat) (list : List Avp) → taken r (spread formats list) ≡ taken r list
taken-spread r formats list = rw (coded-spread r.code formats list) refl

pub groups-spread : (others formats : List AvpFormat) (list : List Avp) → groups others (spread formats list) ≡ groups others list
groups-spread [] formats list = refl
groups-spread (r ∷ others) formats list =
    rw (taken-spread r formats list) (ap (λ (l : List (List Avp)). taken r list ∷ l) (groups-spread others formats list))

pub both_are : (a b : Bool) → (a && b) ≡ true → (a ≡ true) × (b ≡ true)
both_are true b e = (refl, e)
both_are false b e = absurd cc

groups-left : (r : AvpFormat) (formats : List AvpFormat) (list : List Avp) → is_new r formats ≡ true → groups formats (left_by r list) ≡ groups formats list
groups-left r [] list e = refl
groups-left r (q ∷ formats) list e =
    let h = both_are (not (r.code == q.code)) (is_new r formats) e in
    let same : filter (is_coded q.code) (left_by r list) ≡ filter (is_coded q.code) list =
    stay r.several (is_coded q.code) (is_for r) list (apart_codes q.code r.code (fails_from (r.code == q.code) h.0)) in
    rw same (ap (λ (l : List (List Avp)). taken q list ∷ l) (groups-left r formats list h.1))

-- where no two formats have one code, what each takes, and then the rest, is the list as written
pub spread-is : (formats : List AvpFormat) (list : List Avp) → is_distinct formats ≡ true → flat_map (λ group. group) (groups formats list) ++ untaken formats list ≡ spread formats list
spread-is [] list e = refl
spread-is (r ∷ formats) list e =
    let h = both_are (is_new r formats) (is_distinct formats) e in
    rw (← groups-left r formats list h.0)
    (append_assoc (taken r list) (flat_map (λ group. group) (groups formats (left_by r list))) (untaken formats (left_by r list)) ∙ ap (λ (l : List Avp). taken r list ++ l) (spread-is formats (left_by r list) h.1))
