-- Looks are right where all that is looked at says so.
use Rattle.std.proofs.Common.{◌≡◌, ◌∙◌, ◌+◌, ◌<◌, ◌≤◌, ℕ, List, [], ◌∷◌, ◌++◌, Bool, true, false, length, drop}
use Rattle.std.proofs.Common.{get_or, map, refl, ap, sym, subst, arith, inl, inr, mod-lt}
use Rattle.std.specs.Prelude.{◌&&◌, filter, flat_map, nat_lt, slice_index_or, sum, take, All, Option}
use Rattle.std.specs.Bool.{Decides}
use Rattle.std.proofs.lemmas.Bool.{and_from, and_parts, cases_lt, cond-true, false≢true, lt-ltb}
use Rattle.std.proofs.lemmas.List.{append-nil, drop_at, get_or-drop, get_or_past, length-map, map-append}
use Rattle.std.proofs.lemmas.List.{take-append-drop, take_at, take_more}
use Rattle.std.proofs.lemmas.List.Concat.{flat_map-append}
use Rattle.std.proofs.lemmas.List.Elements.{All-append, All-cons, All-drop, All-head, All-nil, All-take, All-weaker}
use Rattle.bench_item.specs.Keys.{home}
use Rattle.bench_item.specs.declared.entry.Entry.{Entry}
use Rattle.bench_item.specs.declared.item.Item.TheVariants.{ToMachine}
use Rattle.bench_item.specs.declared.item.MachineItem.{MachineItem}
use Rattle.bench_item.specs.declared.source.Source.TheVariants.{Desk}
use Rattle.bench_spec.specs.Items.{dropped, posts, worked}
use Rattle.bench_parts.specs.Views.{kept_of}
use Rattle.bench_parts.specs.declared.view.Note.{Note}
use Rattle.bench_spec.specs.Merged.{Did, IsRight, IsRightAt, Kept, Look, OfDesk, Parts, Stamped, entries_before}
use Rattle.bench_spec.specs.Merged.{entries_kept, Saw, entries_of, handled_of, is_item_for, looks_kept, looks_of}
use Rattle.bench_spec.specs.Settings.{Settings}
use Rattle.bench_looks.specs.Before.{before}
use Rattle.bench_looks.specs.Brought.{StandsSo}
use Rattle.bench_looks.specs.Parts.{AreRight, DeskIsRight, IsRightIn, kept_at, parts_by, stamped_in}
use Rattle.bench_looks.specs.Tallies.{AreMet, came, is_all, told_by}
use Rattle.bench_looks.proofs.CountLemmas.{handled-are}
use Rattle.bench_looks.proofs.MetLemmas.{all-met, told-are}

-- what was found of a look
pub record Found (settings : Settings) (desk : ℕ) (of_shard of_desk : List Entry) (look : Look)
    (shards shard : ℕ) (told : List MachineItem) (own : List Bool) (works handled : ℕ) (met : Option ℕ)
    (all counted so : Bool) : Type 0 where
  pub shards_are : shards ≡ settings.node.shards
  pub shard_is : shard ≡ home shards look.key.name
  pub told_is : told ≡ told_by shards shard desk of_desk
  pub met_is : AreMet (map (λ i. ToMachine i) told) (dropped of_shard (Desk desk)) met
  pub all_is : all ≡ is_all (length told) met
  pub own_is : own ≡ came shards shard desk of_shard
  pub works_is : works ≡ length (worked of_shard shard)
  pub handled_is : handled ≡ length (filter (λ b. b) (take works own))
  pub counted_is : Decides counted ((look.handled ≡ handled) × (look.waiting + look.handled ≡ length told))
  pub so_is : Decides so (StandsSo settings.node of_shard look.key look.stands)

pub right-decides : (settings : Settings) (desk : ℕ) (of_shard of_desk : List Entry) (look : Look) (shards shard : ℕ)
    (told : List MachineItem) (own : List Bool) (works handled : ℕ) (met : Option ℕ) (all counted so : Bool)
    → Found settings desk of_shard of_desk look shards shard told own works handled met all counted so
    → Decides ((all && counted) && so)
    (IsRight settings desk (home settings.node.shards look.key.name) of_shard of_desk look)
right-decides settings desk of_shard of_desk look shards shard told own works handled met all counted so f =
    let node = settings.node in
    let here = home node.shards look.key.name in
    let here_is : shard ≡ here = f.shard_is ∙ ap (λ n. home n look.key.name) f.shards_are in
    let items = map (λ (i : MachineItem). ToMachine i) told in
    let long : length items ≡ length told = length-map told (λ i. ToMachine i) in
    let own_are : own ≡ came node.shards here desk of_shard =
    f.own_is ∙ ap (λ n. came n shard desk of_shard) f.shards_are
    ∙ ap (λ s. came node.shards s desk of_shard) here_is in
    let count : handled ≡ length (handled_of node of_shard here desk) =
    f.handled_is
    ∙ ap (λ n. length (filter (λ (b : Bool). b) (take n own)))
    (f.works_is ∙ ap (λ s. length (worked of_shard s)) here_is)
    ∙ ap (λ bs. length (filter (λ (b : Bool). b) (take (length (worked of_shard here)) bs))) own_are
    ∙ sym (handled-are node of_shard here desk) in
    let posted : items ≡ filter (is_item_for node here) (posts settings of_desk (Desk desk)) =
    ap (map (λ (i : MachineItem). ToMachine i))
    (f.told_is ∙ ap (λ n. told_by n shard desk of_desk) f.shards_are
    ∙ ap (λ s. told_by node.shards s desk of_desk) here_is)
    ∙ told-are node here desk of_desk in
    let each : Decides all (dropped of_shard (Desk desk) ≡ items) =
    subst (λ b. Decides b (dropped of_shard (Desk desk) ≡ items))
    (sym (f.all_is ∙ ap (λ n. is_all n met) (sym long)))
    (all-met items (dropped of_shard (Desk desk)) met f.met_is) in (
      λ yes.
          let both = and_parts (all && counted) so yes in
          let parts = and_parts all counted both.0 in
          let dropped_is = each.0 parts.0 in
          let counts = f.counted_is.0 parts.1 in
          record {
            told = dropped_is ∙ posted;
            handled = counts.0 ∙ count;
            waiting = counts.1 ∙ sym long ∙ sym (ap length dropped_is);
            state = f.so_is.0 both.1;
          },
      λ right.
          let dropped_is : dropped of_shard (Desk desk) ≡ items = right.told ∙ sym posted in
          and_from (all && counted) so
          (and_from all counted (each.1 dropped_is)
          (f.counted_is.1 (right.handled ∙ sym count, right.waiting ∙ ap length dropped_is ∙ long)))
          (f.so_is.1 right.state),
    )

-- looks by the names of parts are those by their places
pub desk-kept : (settings : Settings) (kept : List (List Kept)) (desk : ℕ)
    → slice_index_or (drop (settings.node.shards + 2) kept) desk [] ≡ kept_at kept (settings.node.shards + 2 + desk)
desk-kept settings kept desk = get_or-drop (settings.node.shards + 2) kept desk []

shard-part : (settings : Settings) (kept : List (List Kept)) (name : List ℕ) → 0 < settings.node.shards
    → (parts_by settings.node.shards kept [] (λ page. [])).shards (home settings.node.shards name)
    ≡ stamped_in kept (home settings.node.shards name)
shard-part settings kept name some =
    let shard = home settings.node.shards name in
    let within : shard < settings.node.shards = mod-lt (sum name) some in
    cond-true (nat_lt shard settings.node.shards) (stamped_in kept shard) [] (lt-ltb shard settings.node.shards within)

-- a look by names, and by places
abbrev RightBy : Settings → ℕ → Look → List Stamped → List Stamped → Type 0
RightBy settings desk look of_shard of_desk =
    IsRight settings desk (home settings.node.shards look.key.name) (entries_before look.stamp of_shard)
    (entries_before look.stamp of_desk) look

abbrev named : Settings → List (List Kept) → Parts
named settings kept = parts_by settings.node.shards kept [] (λ page. [])

named-in : (settings : Settings) (kept : List (List Kept)) (desk : ℕ) (look : Look) → 0 < settings.node.shards
    → IsRightAt settings (named settings kept) desk look → IsRightIn settings kept desk look
named-in settings kept desk look some right =
    subst (RightBy settings desk look (stamped_in kept (home settings.node.shards look.key.name)))
    (ap (flat_map entries_kept) (desk-kept settings kept desk))
    (subst (λ ss. RightBy settings desk look ss (entries_of (named settings kept) (OfDesk desk)))
    (shard-part settings kept look.key.name some) right)

in-named : (settings : Settings) (kept : List (List Kept)) (desk : ℕ) (look : Look) → 0 < settings.node.shards
    → IsRightIn settings kept desk look → IsRightAt settings (named settings kept) desk look
in-named settings kept desk look some right =
    subst (λ ss. RightBy settings desk look ss (entries_of (named settings kept) (OfDesk desk)))
    (sym (shard-part settings kept look.key.name some))
    (subst (RightBy settings desk look (stamped_in kept (home settings.node.shards look.key.name)))
    (ap (flat_map entries_kept) (sym (desk-kept settings kept desk))) right)

-- all looks are right where those of the desks that there are parts of are
pub are-right : (settings : Settings) (kept : List (List Kept)) (desks : ℕ) → 0 < settings.node.shards
    → length kept ≤ settings.node.shards + 2 + desks
    → ((desk : ℕ) → desk < desks → DeskIsRight settings kept desk) → AreRight settings kept
are-right settings kept desks some few each desk =
    All-weaker (IsRightIn settings kept desk) (IsRightAt settings (named settings kept) desk)
    (λ look. in-named settings kept desk look some) (looks_of (named settings kept) desk)
    (subst (λ ks. All (IsRightIn settings kept desk) (flat_map looks_kept ks)) (sym (desk-kept settings kept desk))
    (elim (cases_lt desk desks) [
      | inl l ↦ each desk l
      | inr past ↦
          subst (λ ks. All (IsRightIn settings kept desk) (flat_map looks_kept ks))
          (sym (get_or_past kept (settings.node.shards + 2 + desk) [] (omega (arith, few, past))))
          (All-nil (IsRightIn settings kept desk))
    ]))

pub desk-right : (settings : Settings) (kept : List (List Kept)) (desk : ℕ) → 0 < settings.node.shards
    → AreRight settings kept → DeskIsRight settings kept desk
desk-right settings kept desk some right =
    subst (λ ks. All (IsRightIn settings kept desk) (flat_map looks_kept ks)) (desk-kept settings kept desk)
    (All-weaker (IsRightAt settings (named settings kept) desk) (IsRightIn settings kept desk)
    (λ look. named-in settings kept desk look some) (looks_of (named settings kept) desk) (right desk))

-- of what a desk kept: a look is right, an entry has none
pub look-right : (settings : Settings) (kept : List (List Kept)) (desk : ℕ) (note : Kept) (look : Look) (right : Bool)
    (of_shard of_desk : List Kept) → note ≡ Saw look
    → of_shard ≡ kept_at kept (home settings.node.shards look.key.name)
    → of_desk ≡ kept_at kept (settings.node.shards + 2 + desk)
    → Decides right
    (IsRight settings desk (home settings.node.shards look.key.name) (before look.stamp of_shard)
    (before look.stamp of_desk) look)
    → Decides right (All (IsRightIn settings kept desk) (looks_kept note))
look-right settings kept desk note look right of_shard of_desk is shard_is desk_is decides =
    let P = IsRightIn settings kept desk in
    let here : Decides right (P look) =
    subst (λ ks. Decides right (IsRight settings desk (home settings.node.shards look.key.name)
    (before look.stamp (kept_at kept (home settings.node.shards look.key.name))) (before look.stamp ks) look)) desk_is
    (subst (λ ks. Decides right (IsRight settings desk (home settings.node.shards look.key.name)
    (before look.stamp ks) (before look.stamp of_desk) look)) shard_is decides) in
    subst (λ (n : Kept). Decides right (All P (looks_kept n))) (sym is) (
      λ yes. All-cons P look [] (here.0 yes) (All-nil P),
      λ all. here.1 (All-head P look [] all),
    )

-- one more of what a desk kept
looks-next : (notes : List Note) (k : ℕ) (n : Note) → k < length notes → n ≡ get_or notes k n
    → flat_map looks_kept (map kept_of (take (k + 1) notes))
    ≡ flat_map looks_kept (map kept_of (take k notes)) ++ looks_kept (kept_of n)
looks-next notes k n l is =
    ap (λ ns. flat_map looks_kept (map kept_of ns)) (take_more notes k n l)
    ∙ ap (flat_map looks_kept) (map-append kept_of (take k notes) (get_or notes k n ∷ []))
    ∙ flat_map-append looks_kept (map kept_of (take k notes)) (kept_of (get_or notes k n) ∷ [])
    ∙ ap (λ ls. flat_map looks_kept (map kept_of (take k notes)) ++ ls)
    (append-nil (looks_kept (kept_of (get_or notes k n))) ∙ ap (λ m. looks_kept (kept_of m)) (sym is))

pub notes-next : (P : Look → Type 0) (notes : List Note) (k : ℕ) (n : Note) (right : Bool) → k < length notes
    → n ≡ get_or notes k n → Decides right (All P (looks_kept (kept_of n))) → right ≡ true
    → All P (flat_map looks_kept (map kept_of (take k notes)))
    → All P (flat_map looks_kept (map kept_of (take (k + 1) notes)))
notes-next P notes k n right l is decides so all =
    subst (All P) (sym (looks-next notes k n l is))
    (All-append P (flat_map looks_kept (map kept_of (take k notes))) (looks_kept (kept_of n)) all (decides.0 so))

-- the front and the back of a list
front-all : (P : Look → Type 0) (xs ys : List Look) → All P (xs ++ ys) → All P xs
front-all P xs ys all = subst (All P) (take_at xs ys (length xs) refl) (All-take P (length xs) (xs ++ ys) all)

back-all : (P : Look → Type 0) (xs ys : List Look) → All P (xs ++ ys) → All P ys
back-all P xs ys all = subst (All P) (drop_at xs ys (length xs) refl) (All-drop P (length xs) (xs ++ ys) all)

pub notes-wrong : (P : Look → Type 0) (notes : List Note) (k : ℕ) (n : Note) (right : Bool) → k < length notes
    → n ≡ get_or notes k n → Decides right (All P (looks_kept (kept_of n))) → right ≡ false
    → All P (flat_map looks_kept (map kept_of notes)) → ⊥
notes-wrong P notes k n right l is decides wrong all =
    let firsts = flat_map looks_kept (map kept_of (take (k + 1) notes)) in
    let rest = flat_map looks_kept (map kept_of (drop (k + 1) notes)) in
    let split : flat_map looks_kept (map kept_of notes) ≡ firsts ++ rest =
    ap (λ ns. flat_map looks_kept (map kept_of ns)) (sym (take-append-drop (k + 1) notes))
    ∙ ap (flat_map looks_kept) (map-append kept_of (take (k + 1) notes) (drop (k + 1) notes))
    ∙ flat_map-append looks_kept (map kept_of (take (k + 1) notes)) (map kept_of (drop (k + 1) notes)) in
    let here = back-all P (flat_map looks_kept (map kept_of (take k notes))) (looks_kept (kept_of n))
    (subst (All P) (looks-next notes k n l is) (front-all P firsts rest (subst (All P) split all))) in
    false≢true (sym wrong ∙ decides.1 here)

-- a part of entries has no looks
no-looks : (xs : List Stamped) → flat_map looks_kept (map Did xs) ≡ []
no-looks [] = refl
no-looks (x ∷ xs) = no-looks xs

pub entries-right : (settings : Settings) (kept : List (List Kept)) (desk : ℕ) (xs : List Stamped)
    → map Did xs ≡ kept_at kept (settings.node.shards + 2 + desk) → DeskIsRight settings kept desk
entries-right settings kept desk xs is =
    subst (All (IsRightIn settings kept desk)) (sym (no-looks xs) ∙ ap (flat_map looks_kept) is)
    (All-nil (IsRightIn settings kept desk))
