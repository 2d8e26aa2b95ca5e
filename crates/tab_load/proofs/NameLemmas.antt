use Rattle.std.proofs.Common.{◌≡◌, ℕ, suc, ◌+◌, ◌-◌, ◌≤◌, ◌||◌, nat_lt, Bool, true, false, not, cond, is_none, List, [], ◌∷◌, ◌++◌, Some, None, length, map, take, drop, arith, refl, sym, ap, subst, ◌∙◌, ◌<◌, ◌⊎◌, inl, inr}
use Rattle.std.specs.List.{flat_map, list_any, slice_index_or}
use Rattle.std.proofs.Math.Seq.{drop-append_seam, take-append_seam}
use Rattle.std.proofs.lemmas.Bool.Decides.{nat_tests}
use Rattle.std.specs.Str.{bytes_eq}
use Rattle.std.proofs.lemmas.List.{length-append, flat_map_more, length-take-le, take-append-drop, append_assoc, append-nil}
use Rattle.base_list.specs.declared.named.Named.{Named}
use Rattle.tab_text.specs.Names.{is_name}
use Rattle.tab_asm.specs.Images.{name_octets}
use Rattle.tab_load.specs.Names.{place_in, name_fault, next_fault, NamesOf}
use Rattle.tab_load.specs.declared.fault.ImageFault.{ImageFault}
use Rattle.tab_load.specs.declared.fault.ImageFault.TheVariants.{Name, Unbound}
use Rattle.tab_load.proofs.ScanLemmas.{front-more, EachAfter-more}

-- a name without a fault is bound
pub is-bound : {T : Type 0} (bound : Bool) (entries : List (Named T)) (before : List (List ℕ)) (name : List ℕ) → name_fault bound entries before name ≡ None → is_none (place_in bound entries name) ≡ false
is-bound bound entries before name none =
    by_tests (not (is_name name) || list_any (λ other. bytes_eq other name) before) (is_none (place_in bound entries name)) refl none
  where
    by_tests : (bad missing : Bool) → is_none (place_in bound entries name) ≡ missing → cond bad (Some Name) (cond missing (Some Unbound) None) ≡ None → is_none (place_in bound entries name) ≡ false
    by_tests true missing is none = cc
    by_tests false true is none = cc
    by_tests false false is none = is

map-push : {A B : Type 0} (f : A → B) (xs : List A) (x : A) → map f (xs ++ x ∷ []) ≡ map f xs ++ f x ∷ []
map-push f [] x = refl
map-push {B = B} f (y ∷ xs) x = ap (λ (r : List B). f y ∷ r) (map-push f xs x)

-- names with one more
pub names-more : {T : Type 0} (bound : Bool) (entries : List (Named T)) (octets : List ℕ) (begin count end next : ℕ) (names : List (List ℕ)) (places : List ℕ) (name rest : List ℕ) (place : ℕ) → NamesOf bound entries octets begin count end names places → drop end octets ≡ name_octets name ++ rest → next ≡ end + (1 + length name) → next ≤ length octets → name_fault bound entries names name ≡ None → place_in bound entries name ≡ Some place → NamesOf bound entries octets begin (count + 1) next (names ++ name ∷ []) (places ++ place ∷ [])
names-more bound entries octets begin count end next names places name rest place before stands is inside none at =
    let long : length (name_octets name) ≡ 1 + length name = omega arith in
    record {
      fine = EachAfter-more (λ (b : List (List ℕ)) (n : List ℕ). name_fault bound entries b n ≡ None) [] names name before.fine none;
      many = length-append names (name ∷ []) ∙ rw (before.many) refl;
      front = ap (λ (n : ℕ). take n octets) is ∙ front-more octets end (1 + length name) _ (name_octets name) rest before.front stands long ∙ flat_map_more name_octets (take begin octets) names name;
      inside = inside;
      placed = map-push (place_in bound entries) names name ∙ rw (before.placed, at) (sym (map-push Some places place));
    }

-- a name that octets begin with
pub name-stands : (octets : List ℕ) (size : ℕ) → size ≡ slice_index_or octets 0 0 → 1 + size ≤ length octets → octets ≡ name_octets (take ((1 + size) - 1) (drop 1 octets)) ++ drop (1 + length (take ((1 + size) - 1) (drop 1 octets))) octets
name-stands [] size is inside = absurd (omega (arith, inside))
name-stands (first ∷ rest) size is inside =
    let long : length (take size rest) ≡ size = length-take-le size rest (omega (arith, inside)) in
    let same : (1 + size) - 1 ≡ size = omega arith in
    let next : 1 + first ≡ suc first = omega arith in
    rw (same, long) (rw is (rw next (ap (λ (octets : List ℕ). first ∷ octets) (sym (take-append-drop first rest)))))

-- what is wrong with the name that octets begin with
pub name-wrong : {T : Type 0} (bound : Bool) (entries : List (Named T)) (before : List (List ℕ)) (octets : List ℕ) (size : ℕ) (fault : ImageFault) → size ≡ slice_index_or octets 0 0 → 1 + size ≤ length octets → name_fault bound entries before (take ((1 + size) - 1) (drop 1 octets)) ≡ Some fault → next_fault bound entries before octets ≡ Some fault
name-wrong bound entries before octets size fault is inside wrong =
    let same : (1 + size) - 1 ≡ slice_index_or octets 0 0 = omega (arith, is) in
    let long : nat_lt (length octets) (1 + slice_index_or octets 0 0) ≡ false = grind (arith, nat_tests, is, inside) in
    rw long (rw same at wrong)

-- the first of names has no fault
first-name : {T : Type 0} (bound : Bool) (entries : List (Named T)) (octets : List ℕ) (begin end : ℕ) (name : List ℕ) (more : List (List ℕ)) → take end octets ≡ take begin octets ++ flat_map name_octets (name ∷ more) → begin ≤ length octets → name_fault bound entries [] name ≡ None → next_fault bound entries [] (drop begin octets) ≡ None
first-name bound entries octets begin end name more front inside none =
    let rest = flat_map name_octets more ++ drop end octets in
    let long = length-take-le begin octets inside in
    let all : octets ≡ take begin octets ++ (name_octets name ++ rest) =
    sym (take-append-drop end octets) ∙ ap (λ (r : List ℕ). r ++ drop end octets) front ∙ append_assoc (take begin octets) (name_octets name ++ flat_map name_octets more) (drop end octets)
    ∙ ap (λ (r : List ℕ). take begin octets ++ r) (append_assoc (name_octets name) (flat_map name_octets more) (drop end octets)) in
    let stands : drop begin octets ≡ name_octets name ++ rest =
    ap (λ (n : ℕ). drop n octets) (sym long) ∙ ap (drop (length (take begin octets))) all ∙ drop-append_seam (take begin octets) (name_octets name ++ rest) in
    let whole : nat_lt (length (name_octets name ++ rest)) (1 + length name) ≡ false = grind (arith, nat_tests, length-append (name_octets name) rest) in
    rw stands (rw (whole, take-append_seam name rest) none)

-- where the next name has no fault, nor has the first
pub first-fine : {T : Type 0} (bound : Bool) (entries : List (Named T)) (octets : List ℕ) (begin count end : ℕ) (names : List (List ℕ)) (places : List ℕ) → NamesOf bound entries octets begin count end names places → begin ≤ length octets → (0 < count) ⊎ (next_fault bound entries names (drop end octets) ≡ None) → next_fault bound entries [] (drop begin octets) ≡ None
first-fine bound entries octets begin count end [] places is inside (inl some) = absurd (omega (arith, is.many, some))
first-fine bound entries octets begin count end [] places is inside (inr next) =
    let same : end ≡ begin =
    sym (length-take-le end octets is.inside) ∙ ap length is.front ∙ ap length (append-nil (take begin octets)) ∙ length-take-le begin octets inside in
    subst (λ (n : ℕ). next_fault bound entries [] (drop n octets) ≡ None) same next
first-fine bound entries octets begin count end (name ∷ more) places is inside either =
    first-name bound entries octets begin end name more is.front inside is.fine.0
