use Rattle.std.proofs.Common.{◌≡◌, ℕ, ◌+◌, ◌-◌, ◌<◌, ◌≤◌, suc, zero, Bool, true, false, List, [], ◌∷◌, ◌++◌, Some, None, length, map, filter, get_or, arith, rules, refl, sym, ◌∙◌, append_assoc, append-nil, add-zero, ap, drop, ◌↔◌, take, subst, length-append}
use Rattle.std.specs.Prelude.{◌==◌, ◌&&◌}
use Rattle.std.specs.List.{slice_get, enumerate_from, list_all}
use Rattle.std.specs.Option.{option_map_or}
use Rattle.std.specs.Str.{bytes_eq}
use Rattle.std.proofs.Common.{inl, inr}
use Rattle.std.proofs.lemmas.Bool.{cases_lt, ne_eqb}
use Rattle.std.proofs.lemmas.List.{append_cancel_left, drop_all}
use Rattle.std.proofs.Math.Seq.{drop-cons, take-append_seam}
use Rattle.tab_law.specs.Acts.{Permits, emitted}
use Rattle.tab_law.specs.declared.law.Change.{Change}
use Rattle.std.proofs.lemmas.Option.{slice_get-get_or}
use Rattle.std.proofs.lemmas.Slice.Eq.{bytes_eq-Decides}
use Rattle.std.proofs.lemmas.List.Quantifiers.{position-Some}
use Rattle.tab_law.specs.Books.{Laws, guard_answer, named_answer, ActPermits, NamedPermits}
use Rattle.base_list.specs.Named.{place_of, HasOwnNames}
use Rattle.tab_law.specs.declared.scene.Scene.{Scene}
use Rattle.tab_law.specs.declared.scene.Deed.{Deed}
use Rattle.base_list.specs.declared.named.Named.{Named}
use Rattle.base_list.proofs.NamedLemmas.{entry_of-place}
use Rattle.tab_text.specs.Contents.{Contents}
use Rattle.tab_text.specs.declared.row.Row.{Row}
use Rattle.tab_step.specs.Moves.{Runs, end_of, scene_of, name_at, is_kind_of, matches}
use Rattle.tab_step.specs.Bind.{IsPlacesOf}
use Rattle.tab_step.specs.declared.bound.RowPlaces.{RowPlaces}

-- a row that stands for none
pub no_row : Row
no_row = record { state = 0; kind = 0; guards = []; actions = []; next = 0 }

-- a run goes on by one more action
pub Runs-more : {A : Type 0} (Answers : A → Scene → List ℕ → List Deed → Type 0) (facts : List ℕ) (actions : List A) (before : List ℕ) (chain : List (List ℕ)) (deeds : List Deed) (action : A) (after : List ℕ) (own : List Deed) → Runs Answers facts actions before chain deeds → Answers action (scene_of (end_of before chain) facts) after own → Runs Answers facts (actions ++ action ∷ []) before (chain ++ after ∷ []) (deeds ++ own)
Runs-more Answers facts [] before [] deeds action after own r p = (own, [], p, rw r (sym (append-nil own)), refl)
Runs-more Answers facts [] before (c ∷ chain) deeds action after own r p = absurd r
Runs-more Answers facts (a ∷ actions) before [] deeds action after own r p = absurd r
Runs-more Answers facts (a ∷ actions) before (c ∷ chain) deeds action after own r p =
    (r.0, r.1 ++ own, r.2, rw (r.3, append_assoc) refl, Runs-more Answers facts actions c chain r.1 action after own r.4 p)

-- the end of a chain with one more member
pub end_of-more : (before : List ℕ) (chain : List (List ℕ)) (after : List ℕ) → end_of before (chain ++ after ∷ []) ≡ after
end_of-more before [] after = refl
end_of-more before (c ∷ chain) after = end_of-more c chain after

-- what stands at the places of names stands under the names
pub Runs-named : (laws : Laws) (names : List (List ℕ)) (facts : List ℕ) (numbers places : List ℕ) (before : List ℕ) (chain : List (List ℕ)) (deeds : List Deed) → map (λ number. place_of (name_at names number) laws.acts) numbers ≡ map Some places → Runs (ActPermits laws) facts places before chain deeds → Runs (NamedPermits laws) facts (map (name_at names) numbers) before chain deeds
Runs-named laws names facts [] [] before [] deeds e r = r
Runs-named laws names facts [] [] before (c ∷ chain) deeds e r = absurd r
Runs-named laws names facts [] (p ∷ places) before chain deeds e r = cc
Runs-named laws names facts (n ∷ numbers) [] before chain deeds e r = cc
Runs-named laws names facts (n ∷ numbers) (p ∷ places) before [] deeds e r = absurd r
Runs-named laws names facts (n ∷ numbers) (p ∷ places) before (c ∷ chain) deeds e r =
    let at : place_of (name_at names n) laws.acts ≡ Some p = cc in
    let rest : map (λ number. place_of (name_at names number) laws.acts) numbers ≡ map Some places = cc in
    let one : NamedPermits laws (name_at names n) (scene_of before facts) c r.0 = rw (entry_of-place (name_at names n) laws.acts p at) r.2 in
    (r.0, r.1, one, r.3, Runs-named laws names facts numbers places c chain r.1 rest r.4)

-- what stands under the names stands at their places
pub Runs-placed : (laws : Laws) (names : List (List ℕ)) (facts : List ℕ) (numbers places : List ℕ) (before : List ℕ) (chain : List (List ℕ)) (deeds : List Deed) → map (λ number. place_of (name_at names number) laws.acts) numbers ≡ map Some places → Runs (NamedPermits laws) facts (map (name_at names) numbers) before chain deeds → Runs (ActPermits laws) facts places before chain deeds
Runs-placed laws names facts [] [] before [] deeds e r = r
Runs-placed laws names facts [] [] before (c ∷ chain) deeds e r = absurd r
Runs-placed laws names facts [] (p ∷ places) before chain deeds e r = cc
Runs-placed laws names facts (n ∷ numbers) [] before chain deeds e r = cc
Runs-placed laws names facts (n ∷ numbers) (p ∷ places) before [] deeds e r = absurd r
Runs-placed laws names facts (n ∷ numbers) (p ∷ places) before (c ∷ chain) deeds e r =
    let at : place_of (name_at names n) laws.acts ≡ Some p = cc in
    let rest : map (λ number. place_of (name_at names number) laws.acts) numbers ≡ map Some places = cc in
    let one : ActPermits laws p (scene_of before facts) c r.0 = rw (entry_of-place (name_at names n) laws.acts p at) at r.2 in
    (r.0, r.1, one, r.3, Runs-placed laws names facts numbers places c chain r.1 rest r.4)

-- a chain has one member for each action
pub Runs-length : {A : Type 0} (Answers : A → Scene → List ℕ → List Deed → Type 0) (facts : List ℕ) (actions : List A) (before : List ℕ) (chain : List (List ℕ)) (deeds : List Deed) → Runs Answers facts actions before chain deeds → length chain ≡ length actions
Runs-length Answers facts [] before [] deeds r = refl
Runs-length Answers facts [] before (c ∷ chain) deeds r = absurd r
Runs-length Answers facts (a ∷ actions) before [] deeds r = absurd r
Runs-length Answers facts (a ∷ actions) before (c ∷ chain) deeds r = ap suc (Runs-length Answers facts actions c chain r.1 r.4)

-- what is left of a run behind its first action, whose deeds are known
pub Runs-behind : {A : Type 0} (Answers : A → Scene → List ℕ → List Deed → Type 0) (facts : List ℕ) (action : A) (actions : List A) (before after : List ℕ) (chain : List (List ℕ)) (own rest : List Deed) → Answers action (scene_of before facts) after own → ((other : List Deed) → Answers action (scene_of before facts) after other → other ≡ own) → Runs Answers facts (action ∷ actions) before (after ∷ chain) (own ++ rest) ↔ Runs Answers facts actions after chain rest
Runs-behind Answers facts action actions before after chain own rest p only =
    (λ r. rw (append_cancel_left own rest r.1 (r.3 ∙ ap (λ o. o ++ r.1) (only r.0 r.2))) r.4, λ r. (own, rest, p, refl, r))

-- a run goes on behind the action at a place, whose law permits its deeds
pub Runs-rest : (laws : Laws) (facts : List ℕ) (actions : List ℕ) (chain : List (List ℕ)) (i : ℕ) (before : List ℕ) (entry : Named (List Change)) (own rest behind : List Deed) → i < length actions → length chain ≡ length actions → slice_get laws.acts (get_or actions i 0) ≡ Some entry → Permits entry.value (scene_of before facts) (get_or chain i []) own → rest ≡ own ++ behind
    → Runs (ActPermits laws) facts (drop i actions) before (drop i chain) rest ↔ Runs (ActPermits laws) facts (drop (i + 1) actions) (get_or chain i []) (drop (i + 1) chain) behind
Runs-rest laws facts actions chain i before entry own rest behind l same at p e =
    let s : i + 1 ≡ suc i = omega arith in
    let within : i < length chain = rw same l in
    rw (e, s, drop-cons actions i 0 l, drop-cons chain i [] within)
    (Runs-behind (ActPermits laws) facts (get_or actions i 0) (drop (suc i) actions) before (get_or chain i []) (drop (suc i) chain) own behind (rw at p) (λ other q. only other (rw at at q)))
  where
    only : (other : List Deed) → Permits entry.value (scene_of before facts) (get_or chain i []) other → other ≡ own
    only other q = q.emits ∙ sym p.emits

-- there is no run where the law at a place permits none of the deeds in front
pub Runs-none : (laws : Laws) (facts : List ℕ) (actions : List ℕ) (chain : List (List ℕ)) (i : ℕ) (before : List ℕ) (entry : Named (List Change)) (rest : List Deed) → i < length actions → length chain ≡ length actions → slice_get laws.acts (get_or actions i 0) ≡ Some entry → ((own behind : List Deed) → Permits entry.value (scene_of before facts) (get_or chain i []) own → rest ≡ own ++ behind → ⊥)
    → Runs (ActPermits laws) facts (drop i actions) before (drop i chain) rest → ⊥
Runs-none laws facts actions chain i before entry rest l same at none r =
    let within : i < length chain = rw same l in
    let parts = rw (drop-cons actions i 0 l, drop-cons chain i [] within) at r in
    none parts.0 parts.1 (rw at at parts.2) parts.3

-- a run without actions has no deeds
pub Runs-end : (laws : Laws) (facts : List ℕ) (actions : List ℕ) (chain : List (List ℕ)) (i : ℕ) (before : List ℕ) (rest : List Deed) → length actions ≤ i → length chain ≡ length actions → Runs (ActPermits laws) facts (drop i actions) before (drop i chain) rest ↔ (rest ≡ [])
Runs-end laws facts actions chain i before rest l same =
    let none : drop i actions ≡ [] = drop_all i actions l in
    let no : drop i chain ≡ [] = drop_all i chain (rw same l) in
    rw (none, no) (λ r. r, λ r. r)

-- the last member of a chain is its end
pub end_of-last : (before : List ℕ) (chain : List (List ℕ)) (d : List ℕ) → 0 < length chain → get_or chain (length chain - 1) d ≡ end_of before chain
end_of-last before [] d l = absurd (omega arith)
end_of-last before (c ∷ []) d l = refl
end_of-last before (c ∷ e ∷ chain) d l =
    let i : length (c ∷ e ∷ chain) - 1 ≡ suc (length (e ∷ chain) - 1) = omega arith in
    rw i (end_of-last c (e ∷ chain) d (omega arith))

-- the guards of names answer as those at their places
pub list_all-named : (laws : Laws) (names : List (List ℕ)) (scene : Scene) (numbers places : List ℕ) → map (λ number. place_of (name_at names number) laws.guards) numbers ≡ map Some places → list_all (guard_answer laws scene) places ≡ list_all (λ number. named_answer laws scene (name_at names number)) numbers
list_all-named laws names scene [] [] e = refl
list_all-named laws names scene [] (p ∷ places) e = cc
list_all-named laws names scene (n ∷ numbers) [] e = cc
list_all-named laws names scene (n ∷ numbers) (p ∷ places) e =
    let at : place_of (name_at names n) laws.guards ≡ Some p = cc in
    let rest : map (λ number. place_of (name_at names number) laws.guards) numbers ≡ map Some places = cc in
    rw (entry_of-place (name_at names n) laws.guards p at, list_all-named laws names scene numbers places rest) refl

kind-at : (kinds : List (Named (Unit {0}))) (kind : ℕ) (name : List ℕ) (d : Named (Unit {0})) (b : Bool) → kind < length kinds → bytes_eq (get_or kinds kind d).name name ≡ b → option_map_or (λ entry. bytes_eq entry.name name) (slice_get kinds kind) false ≡ b
kind-at kinds kind name d b l e = rw (slice_get-get_or kinds kind d l) e

no-kind-at : (kinds : List (Named (Unit {0}))) (kind : ℕ) (name : List ℕ) → length kinds ≤ kind → option_map_or (λ entry. bytes_eq entry.name name) (slice_get kinds kind) false ≡ false
no-kind-at [] kind name l = search rules
no-kind-at (k ∷ kinds) zero name l = absurd (omega arith)
no-kind-at (k ∷ kinds) (suc kind) name l = no-kind-at kinds kind name (omega arith)

same-not : (place kind : ℕ) → (place ≡ kind → ⊥) → (place == kind) ≡ false
same-not place kind h = ne_eqb place kind h

other-name : (one other name : List ℕ) → bytes_eq one name ≡ true → (one ≡ other → ⊥) → bytes_eq other name ≡ false
other-name one other name e h =
    elim (bytes_eq other name) as (λ b. bytes_eq other name ≡ b → b ≡ false) [ true ↦ λ t. absurd (h ((bytes_eq-Decides one name).0 e ∙ sym ((bytes_eq-Decides other name).0 t))) | false ↦ λ t. refl ] refl

-- kinds are one by name exactly where they are one by place
pub is_kind_of-place : (laws : Laws) (kind place : ℕ) (name : List ℕ) → HasOwnNames laws.kinds → place_of name laws.kinds ≡ Some place → is_kind_of laws kind name ≡ (place == kind)
is_kind_of-place laws kind place name own h =
    elim (cases_lt kind place) [
      | inl below ↦ kind-at laws.kinds kind name none false (omega (arith, found.0)) (found.2 kind below) ∙ sym (same-not place kind (λ e. omega arith))
      | inr above ↦ elim (cases_lt place kind) [
        | inl over ↦ elim (cases_lt kind (length laws.kinds)) [
          | inl within ↦ kind-at laws.kinds kind name none false within (other-name _ _ name found.1 (own place kind none over within)) ∙ sym (same-not place kind (λ e. omega arith))
          | inr past ↦ no-kind-at laws.kinds kind name past ∙ sym (same-not place kind (λ e. omega arith))
        ]
        | inr under ↦ same (omega arith)
      ]
    ]
  where
    none : Named (Unit {0})
    none = record { name = []; value = tt }

    found : (place < length laws.kinds) × (bytes_eq (get_or laws.kinds place none).name name ≡ true) × ((k : ℕ) → k < place → bytes_eq (get_or laws.kinds k none).name name ≡ false)
    found = position-Some (λ entry. bytes_eq entry.name name) laws.kinds place none h

    same : place ≡ kind → is_kind_of laws kind name ≡ (place == kind)
    same e = rw (← e) (kind-at laws.kinds place name none true found.0 found.1 ∙ grind arith)

-- the first item that passes, where none before it does
pub first-at : {X : Type 0} (p : X → Bool) (xs : List X) (i m : ℕ) (d : X) → i < length xs → ((k : ℕ) → k < i → p (get_or xs k d) ≡ false) → p (get_or xs i d) ≡ true → slice_get (filter (λ numbered. p numbered.1) (enumerate_from m xs)) 0 ≡ Some (m + i, get_or xs i d)
first-at p [] i m d l f t = absurd (omega arith)
first-at p (x ∷ xs) zero m d l f t = rw t (rw add-zero refl)
first-at p (x ∷ xs) (suc i) m d l f t =
    let no : p x ≡ false = f 0 (omega arith) in
    let e = first-at p xs i (m + 1) d (omega arith) (λ k h. f (suc k) (omega arith)) t in
    let n : (m + 1) + i ≡ m + suc i = omega arith in
    rw (no, ← n) e

-- no item passes
pub first-none : {X : Type 0} (p : X → Bool) (xs : List X) (m : ℕ) (d : X) → ((k : ℕ) → k < length xs → p (get_or xs k d) ≡ false) → slice_get (filter (λ numbered. p numbered.1) (enumerate_from m xs)) 0 ≡ None
first-none p [] m d f = refl
first-none p (x ∷ xs) m d f =
    let no : p x ≡ false = f 0 (omega arith) in
    rw no (first-none p xs (m + 1) d (λ k h. f (suc k) (omega arith)))

-- a row takes an event by the places of its names as by the names
pub matches-places : (laws : Laws) (table : Contents) (row : Row) (places : RowPlaces) (state kind : ℕ) (scene : Scene) → HasOwnNames laws.kinds → IsPlacesOf laws table row places → matches table state (is_kind_of laws kind) (named_answer laws scene) row ≡ ((row.state == state) && (places.kind == kind) && list_all (guard_answer laws scene) places.guards)
matches-places laws table row places state kind scene own at =
    rw (is_kind_of-place laws kind places.kind (name_at table.kinds row.kind) own at.kind, ← list_all-named laws table.guards scene row.guards places.guards at.guards) refl

-- the deeds that a law permits are as many as it emits
pub emits-short : (law : List Change) (scene : Scene) (new : List ℕ) (deeds : List Deed) (count : ℕ) → count ≡ length (emitted law scene new) → length deeds < count → (own rest : List Deed) → Permits law scene new own → deeds ≡ own ++ rest → ⊥
emits-short law scene new deeds count is short own rest permits joined =
    let all : length deeds ≡ length own + length rest = ap length joined ∙ length-append own rest in
    let same : length own ≡ count = ap length permits.emits ∙ sym is in
    omega (arith, short, all, same)

-- and are those in front of all
pub emits-front : (law : List Change) (scene : Scene) (new : List ℕ) (deeds : List Deed) (count : ℕ) → count ≡ length (emitted law scene new) → (own rest : List Deed) → Permits law scene new own → deeds ≡ own ++ rest → Permits law scene new (take count deeds)
emits-front law scene new deeds count is own rest permits joined =
    let same : count ≡ length own = is ∙ sym (ap length permits.emits) in
    subst (Permits law scene new) (sym (rw (same, joined) (take-append_seam own rest))) permits
