-- A move by a table's row has a place for each of the row's actions, and four deeds at most for each.
use Rattle.std.proofs.Common.{◌≡◌, ℕ, ◌+◌, ◌*◌, ◌≤◌, Bool, true, false, List, [], ◌∷◌, Option, Some, None, length, map, filter, take, refl, arith, length-append, subst}
use Rattle.std.specs.Prelude.{All, IsSomeAnd}
use Rattle.std.specs.List.{slice_get, enumerate_from, filter_map, cons_option}
use Rattle.std.proofs.lemmas.List.{length-take, length-map}
use Rattle.std.proofs.lemmas.List.Elements.{All-head, All-tail}
use Rattle.base_list.specs.Named.{entry_of}
use Rattle.base_list.specs.declared.named.Named.{Named}
use Rattle.tab_law.specs.Acts.{Permits, deed_of, emitted, is_emit}
use Rattle.tab_law.specs.Books.{Laws, NamedPermits, named_answer}
use Rattle.tab_law.specs.declared.law.Change.{Change}
use Rattle.tab_law.specs.declared.scene.Deed.{Deed}
use Rattle.tab_law.specs.declared.scene.Scene.{Scene}
use Rattle.tab_text.specs.Contents.{Contents, IsRowOf, IsTable}
use Rattle.tab_text.specs.declared.row.Row.{Row}
use Rattle.tab_step.specs.Moves.{MovesBy, Runs, is_kind_of, matches, name_at, row_taken, scene_of}
use Rattle.tab_step.specs.declared.machine.Event.{Event}
use Rattle.tab_step.specs.declared.machine.MachineState.{MachineState}
use Rattle.tab_step.proofs.MoveLemmas.{Runs-length}

cons-few : {Y : Type 0} (o : Option Y) (ys : List Y) → length (cons_option o ys) ≤ length ys + 1
cons-few None ys = omega arith
cons-few (Some y) ys = omega arith

filter_map-fewer : {X Y : Type 0} (f : X → Option Y) (xs : List X) → length (filter_map f xs) ≤ length xs
filter_map-fewer f [] = omega arith
filter_map-fewer f (x ∷ xs) =
    let one = cons-few (f x) (filter_map f xs) in
    let rest = filter_map-fewer f xs in
    omega arith

emitted-few : (law : List Change) (scene : Scene) (new : List ℕ) → length (emitted law scene new) ≤ 4
emitted-few law scene new =
    let fewer = filter_map-fewer (deed_of scene new) (take 4 (filter is_emit law)) in
    let four = length-take 4 (filter is_emit law) in
    omega arith

-- an action answers four deeds at most
own-few : (laws : Laws) (name : List ℕ) (scene : Scene) (new : List ℕ) (own : List Deed) → NamedPermits laws name scene new own → length own ≤ 4
own-few laws name scene new own p = by (entry_of name laws.acts) p
  where
    by : (entry : Option (Named (List Change))) → IsSomeAnd entry (λ entry. Permits entry.value scene new own) → length own ≤ 4
    by None p = absurd p
    by (Some entry) p = rw p.emits (emitted-few entry.value scene new)

deeds-few : (laws : Laws) (facts : List ℕ) (names : List (List ℕ)) (before : List ℕ) (chain : List (List ℕ)) (deeds : List Deed) → Runs (NamedPermits laws) facts names before chain deeds → length deeds ≤ 4 * length names
deeds-few laws facts [] before [] deeds r = rw r (omega arith)
deeds-few laws facts [] before (c ∷ chain) deeds r = absurd r
deeds-few laws facts (a ∷ names) before [] deeds r = absurd r
deeds-few laws facts (a ∷ names) before (c ∷ chain) deeds r =
    let own = own-few laws a (scene_of before facts) c r.0 r.2 in
    let rest = deeds-few laws facts names c chain r.1 r.4 in
    let all = length-append r.0 r.1 in
    rw r.3 (omega arith)

-- what holds of each item holds of one that is taken from them with its number
taken-holds : {X : Type 0} (P : X → Type 0) (test : ℕ × X → Bool) (xs : List X) (m : ℕ) (one : ℕ × X) → All P xs → slice_get (filter test (enumerate_from m xs)) 0 ≡ Some one → P one.1
taken-holds P test [] m one a s = cc
taken-holds P test (x ∷ xs) m one a s = by (test (m, x)) refl (λ t. taken-holds P test xs (m + 1) one (All-tail P x xs a) t)
  where
    by : (b : Bool) → test (m, x) ≡ b → (slice_get (filter test (enumerate_from (m + 1) xs)) 0 ≡ Some one → P one.1) → P one.1
    by true t rest =
        let first : Some (m, x) ≡ Some one = rw t at s in
        let same : (m, x) ≡ one = cc in
        subst (λ o. P o.1) same (All-head P x xs a)
    by false t rest = rest (rw t at s)

-- what a step by a table leaves has room
pub step-fits : (laws : Laws) (table : Contents) (s : MachineState) (e : Event) (after : MachineState) (chain : List (List ℕ)) (deeds : List Deed) → IsTable table → MovesBy (NamedPermits laws) table s e (row_taken table laws s e) after chain deeds → (length chain ≤ 8) × (length deeds ≤ 32)
step-fits laws table s e after chain deeds is_table moves = by (row_taken table laws s e) refl moves
  where
    by : (taken : Option (ℕ × Row)) → row_taken table laws s e ≡ taken → MovesBy (NamedPermits laws) table s e taken after chain deeds → (length chain ≤ 8) × (length deeds ≤ 32)
    by None t m = rw (m.no_chain, m.one_deed) (omega arith, omega arith)
    by (Some numbered) t m =
        let row = taken-holds (IsRowOf table) (λ numbered. matches table s.state (is_kind_of laws e.kind) (named_answer laws (scene_of s.regs e.facts)) numbered.1) table.rows 0 numbered is_table.each_row t in
        let names = length-map numbered.1.actions (name_at table.actions) in
        let members = Runs-length (NamedPermits laws) e.facts (map (name_at table.actions) numbered.1.actions) s.regs chain deeds m.runs in
        let few = deeds-few laws e.facts (map (name_at table.actions) numbered.1.actions) s.regs chain deeds m.runs in
        let actions = row.few_actions in
        (omega arith, omega arith)
