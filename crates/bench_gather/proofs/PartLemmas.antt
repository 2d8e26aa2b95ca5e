-- The entries of parts are replayed in an order.
use Rattle.std.proofs.Common.{◌≡◌, ◌∙◌, ◌+◌, ◌<◌, ◌≤◌, ℕ, suc, List, [], ◌∷◌, ◌++◌, Bool, true, false, length, take}
use Rattle.std.proofs.Common.{drop, map, refl, ap, sym, subst, arith, inl, inr}
use Rattle.std.specs.Prelude.{◌&&◌, flat_map, nat_lt, Result, Ok, Err}
use Rattle.std.specs.List.{list_all}
use Rattle.std.proofs.lemmas.Bool.{ltb-true}
use Rattle.std.proofs.lemmas.List.{append-nil, append_assoc, flat_map_more, length-append, take_all, take-append-drop}
use Rattle.std.proofs.lemmas.List.Concat.{flat_map-append}
use Rattle.std.proofs.lemmas.List.Folds.{flat_map-map, list_all-append}
use Rattle.bench_item.specs.declared.entry.Entry.{Entry}
use Rattle.bench_item.specs.declared.limit.TheConstants.{MAX_ENTRIES}
use Rattle.bench_merge.specs.Order.{Clashes, IsOrder}
use Rattle.bench_merge.specs.declared.merging.Placed.{Placed}
use Rattle.bench_parts.specs.Own.{is_of}
use Rattle.bench_parts.specs.Views.{entries_in, kept_in, stamps_in}
use Rattle.bench_parts.specs.declared.view.Lent.{Lent}
use Rattle.bench_spec.specs.Desks.{IsLongest}
use Rattle.bench_spec.specs.Legal.{IsLegal, MayFollow}
use Rattle.bench_spec.specs.Merged.{Kept, entries_kept}
use Rattle.bench_spec.specs.Settings.{Settings}
use Rattle.bench_spec.specs.Taken.{Replays, Run, with_log}
use Rattle.bench_spec.proofs.LegalLemmas.{IsLegal-front, MayFollow-last}
use Rattle.bench_gather.specs.Gathered.{Adds, Gathers, ReplaysParts, TakesAt}
use Rattle.bench_gather.specs.Given.{Gives, Handed}
use Rattle.bench_gather.specs.Ordered.{are_own, entries_at, entries_by, stamps_of}
use Rattle.bench_gather.specs.declared.fault.GatherFault.{GatherFault}
use Rattle.bench_gather.specs.declared.fault.GatherFault.TheVariants.{Disagree, Full, NoMemory}

and_true : (b : Bool) → (b && true) ≡ b
and_true true = refl
and_true false = refl

-- nothing stands at a place, or an entry does
pub takes-none : (old : Run) (es : List Entry) → [] ≡ es → TakesAt old old es (Ok tt)
takes-none old es none = subst (λ xs. TakesAt old old xs (Ok tt)) none (ap (with_log old) (sym (append-nil old.log)))

pub takes-one : (old new : Run) (e : Entry) (es : List Entry) → e ∷ [] ≡ es → Replays old new e
    → TakesAt old new es (Ok tt)
takes-one old new e es one r = subst (λ xs. TakesAt old new xs (Ok tt)) one r.grown

pub takes-stops : (old new : Run) (e : Entry) (es : List Entry) (fault : GatherFault) → e ∷ [] ≡ es
    → Adds old new e (Err fault) → TakesAt old new es (Err fault)
takes-stops old new e es Full one a = absurd a
takes-stops old new e es (Disagree at) one a = (e, sym one, a.0, a.1, a.2, a.3)
takes-stops old new e es NoMemory one a = a

pub takes-either : (old new : Run) (e : Entry) (es : List Entry) (r : Result (Unit {0}) GatherFault) → e ∷ [] ≡ es
    → Adds old new e r
    → TakesAt old new es r
takes-either old new e es (Ok tt) one a = takes-one old new e es one a
takes-either old new e es (Err fault) one a = takes-stops old new e es fault one a

-- whether one that stands at a place stands in its own part
pub own-none : (shards part : ℕ) (es : List Entry) → [] ≡ es → true ≡ list_all (is_of shards part) es
own-none shards part es none = ap (list_all (is_of shards part)) none

pub own-one : (shards part : ℕ) (e : Entry) (es : List Entry) (own : Bool) → e ∷ [] ≡ es → own ≡ is_of shards part e
    → own ≡ list_all (is_of shards part) es
own-one shards part e es own one is = is ∙ sym (and_true (is_of shards part e)) ∙ ap (list_all (is_of shards part)) one

pub own-next : (shards : ℕ) (parts : List (List Kept)) (order : List Placed) (k : ℕ) (t : Placed) (own stands : Bool)
    → take (k + 1) order ≡ take k order ++ t ∷ [] → own ≡ are_own shards parts (take k order)
    → stands ≡ list_all (is_of shards t.part) (entries_at parts t)
    → (own && stands) ≡ are_own shards parts (take (k + 1) order)
own-next shards parts order k t own stands more so is =
    ap (λ b. b && stands) so
    ∙ ap (λ b. are_own shards parts (take k order) && b)
    (is ∙ sym (and_true (list_all (is_of shards t.part) (entries_at parts t))))
    ∙ sym (list_all-append (λ (u : Placed). list_all (is_of shards u.part) (entries_at parts u)) (take k order)
    (t ∷ []))
    ∙ ap (are_own shards parts) (sym more)

-- one more place of the order
pub parts-next : (old mid new : Run) (parts : List (List Kept)) (order : List Placed) (k : ℕ) (t : Placed)
    → take (k + 1) order ≡ take k order ++ t ∷ [] → mid ≡ with_log old (entries_by parts (take k order))
    → TakesAt mid new (entries_at parts t) (Ok tt) → new ≡ with_log old (entries_by parts (take (k + 1) order))
parts-next old mid new parts order k t more is taken =
    taken ∙ ap (λ (m : Run). with_log m (m.log ++ entries_at parts t)) is
    ∙ ap (with_log old) (flat_map_more (entries_at parts) [] (take k order) t ∙ ap (entries_by parts) (sym more))

-- all are taken
pub parts-all : (old new : Run) (parts : List (List Kept)) (order : List Placed) (k : ℕ) → length order ≤ k
    → new ≡ with_log old (entries_by parts (take k order)) → IsLegal new.settings new.log
    → ReplaysParts old new parts order (Ok tt)
parts-all old new parts order k all is legal =
    let new_is = is ∙ ap (λ o. with_log old (entries_by parts o)) (take_all k order all) in
    (subst (λ (m : Run). IsLegal m.settings m.log) new_is legal, new_is)

-- a front, and one entry more
take-front : (xs ys : List Entry) → take (length xs) (xs ++ ys) ≡ xs
take-front [] ys = refl
take-front (x ∷ xs) ys = ap (λ zs. x ∷ zs) (take-front xs ys)

take-one : (xs ys : List Entry) (e : Entry) → take (suc (length xs)) (xs ++ e ∷ ys) ≡ xs ++ e ∷ []
take-one [] ys e = refl
take-one (x ∷ xs) ys e = ap (λ zs. x ∷ zs) (take-one xs ys e)

-- an entry may not follow: those before it are the longest front that is legal
longest-before : (settings : Settings) (before rest : List Entry) (e : Entry) → IsLegal settings before
    → (MayFollow settings before e → ⊥)
    → (IsLegal settings (before ++ e ∷ rest) → ⊥) × IsLongest settings (before ++ e ∷ rest) (length before)
longest-before settings before rest e legal none =
    let next : length before + 1 ≡ suc (length before) = omega arith in
    let grown = ap (λ n. take n (before ++ e ∷ rest)) next ∙ take-one before rest e in
    let count = length-append before (e ∷ rest) in
    let stops : IsLegal settings (before ++ e ∷ []) → ⊥ = λ longer. none (MayFollow-last settings before e longer) in (
      λ whole.
          stops (IsLegal-front settings (before ++ e ∷ []) rest
          (subst (IsLegal settings) (sym (append_assoc before (e ∷ []) rest)) whole)),
      record {
        within = omega (arith, count);
        legal = subst (IsLegal settings) (sym (take-front before (e ∷ rest))) legal;
        longest = λ more longer. stops (subst (IsLegal settings) grown longer);
      },
    )

-- the entries of an order, split where one place is
split-at : (parts : List (List Kept)) (order : List Placed) (k : ℕ) (t : Placed) (e : Entry)
    → take (k + 1) order ≡ take k order ++ t ∷ [] → entries_at parts t ≡ e ∷ []
    → entries_by parts order ≡ entries_by parts (take k order) ++ e ∷ entries_by parts (drop (k + 1) order)
split-at parts order k t e more one =
    ap (entries_by parts) (sym (take-append-drop (k + 1) order))
    ∙ flat_map-append (entries_at parts) (take (k + 1) order) (drop (k + 1) order)
    ∙ ap (λ xs. xs ++ entries_by parts (drop (k + 1) order))
    (ap (entries_by parts) more ∙ sym (flat_map_more (entries_at parts) [] (take k order) t)
    ∙ ap (λ xs. entries_by parts (take k order) ++ xs) one)
    ∙ append_assoc (entries_by parts (take k order)) (e ∷ []) (entries_by parts (drop (k + 1) order))

parts-stays : (old mid last new : Run) (log : List Entry) → old.log ≡ [] → mid ≡ with_log old log → last ≡ mid
    → new ≡ with_log last [] → new ≡ old
parts-stays old mid last new log empty is same back =
    back ∙ ap (λ (r : Run). with_log r []) (same ∙ is) ∙ ap (with_log old) (sym empty)

-- one is not added, and all steps are taken back
pub parts-stop : (old mid last new : Run) (parts : List (List Kept)) (order : List Placed) (k : ℕ) (t : Placed)
    (fault : GatherFault) → old.log ≡ [] → take (k + 1) order ≡ take k order ++ t ∷ []
    → mid ≡ with_log old (entries_by parts (take k order)) → TakesAt mid last (entries_at parts t) (Err fault)
    → new ≡ with_log last [] → ReplaysParts old new parts order (Err fault)
parts-stop old mid last new parts order k t Full empty more is r back = absurd r
parts-stop old mid last new parts order k t (Disagree at) empty more is (e, one, count, legal, none, same) back =
    let before = entries_by parts (take k order) in
    let split = split-at parts order k t e more one in
    let long = longest-before old.settings before (entries_by parts (drop (k + 1) order)) e
    (subst (λ (m : Run). IsLegal m.settings m.log) is legal)
    (subst (λ (m : Run). MayFollow m.settings m.log e → ⊥) is none) in
    let at_is : at ≡ length before = count ∙ ap (λ (m : Run). length m.log) is in (
      subst (λ log. IsLegal old.settings log → ⊥) (sym split) long.0,
      subst (λ n. IsLongest old.settings (entries_by parts order) n) (sym at_is)
          (subst (λ log. IsLongest old.settings log (length before)) (sym split) long.1),
      parts-stays old mid last new before empty is same back,
    )
parts-stop old mid last new parts order k t NoMemory empty more is r back =
    parts-stays old mid last new (entries_by parts (take k order)) empty is r back

-- what gathering comes to, by what replaying did
pub gathered : (old new : Run) (handed : Handed) (order : List Placed) → IsOrder (stamps_of handed.kept) order
    → Gives old.settings handed order → (r : Result (Unit {0}) GatherFault)
    → ReplaysParts old new handed.kept order r → Gathers old new handed r
gathered old new handed order ordered gives (Ok tt) r = (order, ordered, gives, r.0, r.1)
gathered old new handed order ordered gives (Err Full) r = absurd r
gathered old new handed order ordered gives (Err (Disagree at)) r = (inr (order, ordered, gives, r.0, r.1), r.2)
gathered old new handed order ordered gives (Err NoMemory) r = r

pub clashes : (old : Run) (handed : Handed) → Clashes (stamps_of handed.kept)
    → Gathers old old handed (Err (Disagree 0))
clashes old handed clash = (inl (inl clash, refl), refl)

-- they don't give the log of their order
pub gives-none : (old : Run) (handed : Handed) (order : List Placed) → IsOrder (stamps_of handed.kept) order
    → (Gives old.settings handed order → ⊥) → Gathers old old handed (Err (Disagree 0))
gives-none old handed order ordered none = (inl (inr (order, ordered, none), refl), refl)

-- the stamps of what is lent
pub stamps-same : (parts : List Lent) → map stamps_in parts ≡ stamps_of (map kept_in parts)
stamps-same [] = refl
stamps-same (p ∷ ps) = ap (λ xs. stamps_in p ∷ xs) (stamps-same ps)

-- there are more entries than a log may have
pub past : (b : Bool) (parts : List Lent) → b ≡ nat_lt MAX_ENTRIES (length (flat_map entries_in parts)) → b ≡ true
    → MAX_ENTRIES < length (flat_map (λ kept. flat_map entries_kept kept) (map kept_in parts))
past b parts is so =
    let more = ltb-true MAX_ENTRIES (length (flat_map entries_in parts)) (sym is ∙ so) in
    subst (λ n. MAX_ENTRIES < n)
    (ap length (sym (flat_map-map (λ kept. flat_map entries_kept kept) kept_in parts))) more
