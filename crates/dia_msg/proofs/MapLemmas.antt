-- Rules over AVPs that are each changed, but for code and vendor.
use Rattle.std.proofs.Common.{◌≡◌, ℕ, Bool, true, false, cond, not, List, [], ◌∷◌, length, map, take, filter, All, refl, sym, ap, ◌∙◌}
use Rattle.std.proofs.lemmas.List.{map-append, length-map}
use Rattle.std.proofs.lemmas.List.Elements.{All-head, All-tail, filter_passes}
use Rattle.dia_avp.specs.declared.avp.Avp.{Avp}
use Rattle.dia_avp.specs.Look.{is_coded}
use Rattle.dia_command.specs.declared.format.AvpFormat.{AvpFormat}
use Rattle.dia_msg.specs.Taken.{is_for, taken, left_by, without_first, untaken, is_missing, missing}
use Rattle.dia_msg.proofs.SpreadLemmas.{spread}

abbrev pub Test : Type 0
Test = Avp → Bool

-- the test says the same of each AVP as before
abbrev pub Keeps : (Avp → Avp) → Test → Type 0
Keeps f p = (a : Avp) → p (f a) ≡ p a

filter-head : (f : Avp → Avp) (p : Test) (a : Avp) (list : List Avp) (b : Bool) → p a ≡ b → p (f a) ≡ b → filter p (map f list) ≡ map f (filter p list) → filter p (map f (a ∷ list)) ≡ map f (filter p (a ∷ list))
filter-head f p a list true e k next = rw (k, e) (ap (λ (l : List Avp). f a ∷ l) next)
filter-head f p a list false e k next = rw (k, e) next

pub filter-each : (f : Avp → Avp) (p : Test) (list : List Avp) → Keeps f p → filter p (map f list) ≡ map f (filter p list)
filter-each f p [] keeps = refl
filter-each f p (a ∷ list) keeps = filter-head f p a list (p a) refl (keeps a) (filter-each f p list keeps)

without-head : (f : Avp → Avp) (p : Test) (a : Avp) (list : List Avp) (b : Bool) → p a ≡ b → p (f a) ≡ b → without_first p (map f list) ≡ map f (without_first p list) → without_first p (map f (a ∷ list)) ≡ map f (without_first p (a ∷ list))
without-head f p a list true e k next = rw (k, e) refl
without-head f p a list false e k next = rw (k, e) (ap (λ (l : List Avp). f a ∷ l) next)

without-each : (f : Avp → Avp) (p : Test) (list : List Avp) → Keeps f p → without_first p (map f list) ≡ map f (without_first p list)
without-each f p [] keeps = refl
without-each f p (a ∷ list) keeps = without-head f p a list (p a) refl (keeps a) (without-each f p list keeps)

pub take-each : (f : Avp → Avp) (list : List Avp) → take 1 (map f list) ≡ map f (take 1 list)
take-each f [] = refl
take-each f (a ∷ list) = refl

-- the change keeps code and vendor
abbrev pub KeepsHeads : (Avp → Avp) → Type 0
KeepsHeads f = (a : Avp) → (code : ℕ) → is_coded code (f a) ≡ is_coded code a

took-each : (several : Bool) (f : Avp → Avp) (p : Test) (list : List Avp) → Keeps f p → cond several (filter p (map f list)) (take 1 (filter p (map f list))) ≡ map f (cond several (filter p list) (take 1 (filter p list)))
took-each true f p list keeps = filter-each f p list keeps
took-each false f p list keeps = rw (filter-each f p list keeps) (take-each f (filter p list))

leaves-each : (several : Bool) (f : Avp → Avp) (p : Test) (list : List Avp) → Keeps f p → cond several (filter (λ a. not (p a)) (map f list)) (without_first p (map f list)) ≡ map f (cond several (filter (λ a. not (p a)) list) (without_first p list))
leaves-each true f p list keeps = filter-each f (λ a. not (p a)) list (λ a. ap not (keeps a))
leaves-each false f p list keeps = without-each f p list keeps

pub taken-each : (f : Avp → Avp) (r : AvpFormat) (list : List Avp) → KeepsHeads f → taken r (map f list) ≡ map f (taken r list)
taken-each f r list keeps = took-each r.several f (is_for r) list (λ a. keeps a r.code)

left-each : (f : Avp → Avp) (r : AvpFormat) (list : List Avp) → KeepsHeads f → left_by r (map f list) ≡ map f (left_by r list)
left-each f r list keeps = leaves-each r.several f (is_for r) list (λ a. keeps a r.code)

pub untaken-each : (f : Avp → Avp) (formats : List AvpFormat) (list : List Avp) → KeepsHeads f → untaken formats (map f list) ≡ map f (untaken formats list)
untaken-each f [] list keeps = refl
untaken-each f (r ∷ formats) list keeps = rw (left-each f r list keeps) (untaken-each f formats (left_by r list) keeps)

pub spread-each : (f : Avp → Avp) (formats : List AvpFormat) (list : List Avp) → KeepsHeads f → spread formats (map f list) ≡ map f (spread formats list)
spread-each f [] list keeps = refl
spread-each f (r ∷ formats) list keeps =
    rw (taken-each f r list keeps, left-each f r list keeps, spread-each f formats (left_by r list) keeps) (sym (map-append f (taken r list) (spread formats (left_by r list))))

-- an entry is missing where none is taken
abbrev pub Same : List Avp → List Avp → Type 0
Same xs ys = (r : AvpFormat) → length (taken r xs) ≡ length (taken r ys)

missing-head : (r : AvpFormat) (formats : List AvpFormat) (xs ys : List Avp) (b : Bool) → is_missing xs r ≡ b → is_missing ys r ≡ b → missing formats xs ≡ missing formats ys → missing (r ∷ formats) xs ≡ missing (r ∷ formats) ys
missing-head r formats xs ys true e k next = rw (e, k) (ap (λ (l : List AvpFormat). r ∷ l) next)
missing-head r formats xs ys false e k next = rw (e, k) next

-- where as many are taken, the same are missing
pub missing-same : (formats : List AvpFormat) (xs ys : List Avp) → Same xs ys → missing formats xs ≡ missing formats ys
missing-same [] xs ys same = refl
missing-same (r ∷ formats) xs ys same =
    let k : is_missing ys r ≡ is_missing xs r = rw (same r) refl in
    missing-head r formats xs ys (is_missing xs r) refl k (missing-same formats xs ys same)

pub missing-each : (f : Avp → Avp) (formats : List AvpFormat) (list : List Avp) → KeepsHeads f → missing formats (map f list) ≡ missing formats list
missing-each f formats list keeps = missing-same formats (map f list) list (λ r. rw (taken-each f r list keeps) (length-map (taken r list) f))

each-same : (f : Avp → Avp) (p : Test) (list : List Avp) → ((a : Avp) → p a ≡ true → f a ≡ a) → All (λ a. p a ≡ true) list → map f list ≡ list
each-same f p [] same h = refl
each-same f p (a ∷ list) same h =
    rw (same a (All-head (λ x. p x ≡ true) a list h)) (ap (λ (l : List Avp). a ∷ l) (each-same f p list same (All-tail (λ x. p x ≡ true) a list h)))

-- those that the change leaves as they are, are the same
pub filter-same : (f : Avp → Avp) (p : Test) (list : List Avp) → Keeps f p → ((a : Avp) → p a ≡ true → f a ≡ a) → filter p (map f list) ≡ filter p list
filter-same f p list keeps same = filter-each f p list keeps ∙ each-same f p (filter p list) same (filter_passes p list)
