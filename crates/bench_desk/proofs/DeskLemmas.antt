-- What a desk kept with one tell or look more.
use Rattle.std.proofs.Common.{◌≡◌, ◌∙◌, ◌+◌, ◌<◌, ◌≤◌, ℕ, List, [], ◌∷◌, ◌++◌, Bool, true, false, length, map, set, refl, ap, sym, subst, arith, inl, inr}
use Rattle.std.specs.Prelude.{flat_map, filter, cond, not, ◌==◌, if◌then◌else◌, option_map, unwrap_or, slice_index, Option, Some, None, Result, Ok, Err, IfOk}
use Rattle.std.specs.List.{last_or}
use Rattle.std.proofs.lemmas.Bool.{cases_eq, cond-true, cond-false, eq-eqb, eqb-true, ne_eqb}
use Rattle.std.proofs.lemmas.Grind.{flat_map-append}
use Rattle.std.proofs.lemmas.List.{append-nil, get_or-set_other, get_or-set_same, length-append, length-set, map-append}
use Rattle.std.proofs.lemmas.List.Elements.{filter-append}
use Rattle.tab_step.specs.declared.machine.Event.{Event}
use Rattle.tab_step.specs.declared.machine.MachineState.{MachineState}
use Rattle.bench_item.specs.Keys.{Node, home}
use Rattle.bench_item.specs.declared.entry.Entry.{Entry}
use Rattle.bench_item.specs.declared.item.Item.{Item}
use Rattle.bench_item.specs.declared.key.Key.{Key}
use Rattle.bench_item.specs.declared.limit.TheConstants.{MAX_ENTRIES, MAX_SHARDS}
use Rattle.bench_spec.specs.Desks.{agrees, seen_count, tell_kept, told_count}
use Rattle.bench_spec.specs.Items.{desk_posts, told_item}
use Rattle.bench_spec.specs.Merged.{Kept, Look, Saw, Stamped, entries_kept, is_item_for, looks_kept}
use Rattle.bench_spec.specs.Settings.{Settings}
use Rattle.bench_desk.specs.Desks.{DeskView, IsDesk, entry_count, first_of, look_at, look_refusal}
use Rattle.bench_move.specs.May.{may_look}
use Rattle.bench_desk.specs.Parts.{PartView, handled_from, node_in, waiting_from}
use Rattle.bench_desk.specs.declared.fault.DeskFault.TheVariants.{Disagree, Unknown}

-- the events that a desk told by what it kept
abbrev told_items : ℕ → List Kept → List Item
told_items desk kept = flat_map (λ e. desk_posts desk e.step) (map (λ s. s.entry) (flat_map entries_kept kept))

told_items-append : (desk : ℕ) (kept more : List Kept) → told_items desk (kept ++ more) ≡ told_items desk kept ++ told_items desk more
told_items-append desk kept more =
    ap (λ xs. flat_map (λ e. desk_posts desk e.step) (map (λ s. s.entry) xs)) (flat_map-append entries_kept kept more)
    ∙ ap (flat_map (λ e. desk_posts desk e.step))
    (map-append (λ (s : Stamped). s.entry) (flat_map entries_kept kept) (flat_map entries_kept more))
    ∙ flat_map-append (λ (e : Entry). desk_posts desk e.step) (map (λ s. s.entry) (flat_map entries_kept kept))
    (map (λ s. s.entry) (flat_map entries_kept more))

-- a tell adds its event
told_items-tell : (desk a b c : ℕ) (key : Key) (event : Event) → told_items desk (tell_kept desk (a ∷ b ∷ c ∷ []) key event) ≡ told_item key event ∷ []
told_items-tell desk a b c key event = ap (λ xs. xs ++ []) (cond-true (desk == desk) (told_item key event ∷ []) [] (eq-eqb desk desk refl))

-- how many of these are for a shard
abbrev one_if : Bool → ℕ
one_if b = if b then 1 else 0

of_one : (b : Bool) (item : Item) → length (cond b (item ∷ []) []) ≡ one_if b
of_one true item = refl
of_one false item = refl

pub told_count-tell : (settings : Settings) (desk a b c : ℕ) (key : Key) (event : Event) (kept : List Kept) (s : ℕ)
    → told_count settings desk (kept ++ tell_kept desk (a ∷ b ∷ c ∷ []) key event) s
    ≡ told_count settings desk kept s + one_if (home settings.node.shards key.name == s)
told_count-tell settings desk a b c key event kept s =
    ap (λ xs. length (filter (is_item_for settings.node s) xs))
    (told_items-append desk kept (tell_kept desk (a ∷ b ∷ c ∷ []) key event)
    ∙ ap (λ xs. told_items desk kept ++ xs) (told_items-tell desk a b c key event))
    ∙ ap length (filter-append (is_item_for settings.node s) (told_items desk kept) (told_item key event ∷ []))
    ∙ length-append (filter (is_item_for settings.node s) (told_items desk kept)) (filter (is_item_for settings.node s) (told_item key event ∷ []))
    ∙ ap (λ n. told_count settings desk kept s + n) (of_one (home settings.node.shards key.name == s) (told_item key event))

-- a look adds none
pub told_count-saw : (settings : Settings) (desk : ℕ) (kept : List Kept) (look : Look) (s : ℕ)
    → told_count settings desk (kept ++ Saw look ∷ []) s ≡ told_count settings desk kept s
told_count-saw settings desk kept look s =
    ap (λ xs. length (filter (is_item_for settings.node s) xs))
    (told_items-append desk kept (Saw look ∷ []) ∙ append-nil (told_items desk kept))

-- a tell leaves what was seen
pub seen_count-tell : (settings : Settings) (desk a b c : ℕ) (key : Key) (event : Event) (kept : List Kept) (s : ℕ)
    → seen_count settings (kept ++ tell_kept desk (a ∷ b ∷ c ∷ []) key event) s ≡ seen_count settings kept s
seen_count-tell settings desk a b c key event kept s =
    ap (λ xs. unwrap_or (option_map (λ l. l.handled) (last_or None (filter (λ l. home settings.node.shards l.key.name == s) xs))) 0)
    (flat_map-append looks_kept kept (tell_kept desk (a ∷ b ∷ c ∷ []) key event) ∙ append-nil (flat_map looks_kept kept))

last_or-snoc : {X : Type 0} (o : Option X) (xs : List X) (x : X) → last_or o (xs ++ x ∷ []) ≡ Some x
last_or-snoc o [] x = refl
last_or-snoc o (y ∷ xs) x = last_or-snoc (Some y) xs x

last_seen : (looks : List Look) (look : Look) (b : Bool)
    → unwrap_or (option_map (λ l. l.handled) (last_or None (looks ++ cond b (look ∷ []) []))) 0
    ≡ (if b then look.handled else unwrap_or (option_map (λ l. l.handled) (last_or None looks)) 0)
last_seen looks look true = ap (λ o. unwrap_or (option_map (λ l. l.handled) o) 0) (last_or-snoc None looks look)
last_seen looks look false = ap (λ xs. unwrap_or (option_map (λ l. l.handled) (last_or None xs)) 0) (append-nil looks)

-- a look is the last of its shard
pub seen_count-saw : (settings : Settings) (kept : List Kept) (look : Look) (s : ℕ)
    → seen_count settings (kept ++ Saw look ∷ []) s
    ≡ (if home settings.node.shards look.key.name == s then look.handled else seen_count settings kept s)
seen_count-saw settings kept look s =
    ap (λ xs. unwrap_or (option_map (λ l. l.handled) (last_or None (filter (λ l. home settings.node.shards l.key.name == s) xs))) 0)
    (flat_map-append looks_kept kept (Saw look ∷ []))
    ∙ ap (λ xs. unwrap_or (option_map (λ l. l.handled) (last_or None xs)) 0)
    (filter-append (λ l. home settings.node.shards l.key.name == s) (flat_map looks_kept kept) (look ∷ []))
    ∙ last_seen (filter (λ l. home settings.node.shards l.key.name == s) (flat_map looks_kept kept)) look
    (home settings.node.shards look.key.name == s)

-- how many entries there are
pub entry_count-tell : (desk a b c : ℕ) (key : Key) (event : Event) (kept : List Kept)
    → entry_count (kept ++ tell_kept desk (a ∷ b ∷ c ∷ []) key event) ≡ entry_count kept + 2
entry_count-tell desk a b c key event kept =
    ap length (flat_map-append entries_kept kept (tell_kept desk (a ∷ b ∷ c ∷ []) key event))
    ∙ length-append (flat_map entries_kept kept) (flat_map entries_kept (tell_kept desk (a ∷ b ∷ c ∷ []) key event))

pub entry_count-saw : (kept : List Kept) (look : Look) → entry_count (kept ++ Saw look ∷ []) ≡ entry_count kept
entry_count-saw kept look = ap length (flat_map-append entries_kept kept (Saw look ∷ []) ∙ append-nil (flat_map entries_kept kept))

-- a number written at a place, and read at another
set_at : (xs : List ℕ) (i s v : ℕ) → i < length xs → slice_index (set xs i v) s ≡ (if i == s then v else slice_index xs s)
set_at xs i s v within =
    elim (cases_eq s i) [
      | inl e ↦
          ap (slice_index (set xs i v)) e ∙ get_or-set_same xs i v 0 within
          ∙ sym (cond-true (i == s) v (slice_index xs s) (eq-eqb i s (sym e)))
      | inr apart ↦
          get_or-set_other xs i s v 0 apart
          ∙ sym (cond-false (i == s) v (slice_index xs s) (ne_eqb i s (λ e. apart (sym e))))
    ]

more_if : (b : Bool) (x y m n : ℕ) → x ≡ y + 1 → m ≡ n → (b ≡ true → y ≡ n) → (if b then x else m) ≡ n + one_if b
more_if true x y m n e f g = let k = g refl in omega (arith, e, k)
more_if false x y m n e f g = omega (arith, f)

same_at : (xs : List ℕ) (i s : ℕ) → (i == s) ≡ true → slice_index xs i ≡ slice_index xs s
same_at xs i s e = ap (slice_index xs) (eqb-true i s e)

-- a desk that told an event to its shard
pub IsDesk-tell : (number shards : ℕ) (kept : List Kept) (entries : ℕ) (told seen : List ℕ) (a b c : ℕ) (key : Key) (event : Event)
    → IsDesk number shards kept entries told seen → home shards key.name < MAX_SHARDS → entries + 2 ≤ MAX_ENTRIES
    → IsDesk number shards (kept ++ tell_kept number (a ∷ b ∷ c ∷ []) key event) (entries + 2)
    (set told (home shards key.name) (slice_index told (home shards key.name) + 1)) seen
IsDesk-tell number shards kept entries told seen a b c key event d within room =
    let at = home shards key.name in
    let there : at < length told = subst (λ n. at < n) (sym d.each_told) within in
    record {
      some = d.some;
      few = d.few;
      entries_are = ap (λ n. n + 2) d.entries_are ∙ sym (entry_count-tell number a b c key event kept);
      within = room;
      each_told = length-set told at (slice_index told at + 1) ∙ d.each_told;
      each_seen = d.each_seen;
      below = λ s.
          subst (λ n. n ≤ entries + 2) (sym (set_at told at s (slice_index told at + 1) there))
          (low (at == s) (slice_index told at) (slice_index told s) entries (d.below at) (d.below s));
      counts = record {
        told_are = λ settings s same few.
            set_at told at s (slice_index told at + 1) there
            ∙ more_if (at == s) (slice_index told at + 1) (slice_index told at) (slice_index told s)
            (told_count settings number kept s) refl (d.counts.told_are settings s same few)
            (λ e. same_at told at s e ∙ d.counts.told_are settings s same few)
            ∙ ap (λ n. told_count settings number kept s + one_if (home n key.name == s)) (sym same)
            ∙ sym (told_count-tell settings number a b c key event kept s);
        seen_are = λ settings s same few.
            d.counts.seen_are settings s same few ∙ sym (seen_count-tell settings number a b c key event kept s);
      };
    }
  where
    low : (test : Bool) (x y n : ℕ) → x ≤ n → y ≤ n → (if test then x + 1 else y) ≤ n + 2
    low true x y n e f = omega (arith, e, f)
    low false x y n e f = omega (arith, e, f)

-- a desk that looked
pub IsDesk-saw : (number shards : ℕ) (kept : List Kept) (entries : ℕ) (told seen : List ℕ) (look : Look)
    → IsDesk number shards kept entries told seen → home shards look.key.name < MAX_SHARDS
    → IsDesk number shards (kept ++ Saw look ∷ []) entries told (set seen (home shards look.key.name) look.handled)
IsDesk-saw number shards kept entries told seen look d within =
    let at = home shards look.key.name in
    let there : at < length seen = subst (λ n. at < n) (sym d.each_seen) within in
    record {
      some = d.some;
      few = d.few;
      entries_are = d.entries_are ∙ sym (entry_count-saw kept look);
      within = d.within;
      each_told = d.each_told;
      each_seen = length-set seen at look.handled ∙ d.each_seen;
      below = d.below;
      counts = record {
        told_are = λ settings s same few. d.counts.told_are settings s same few ∙ sym (told_count-saw settings number kept look s);
        seen_are = λ settings s same few.
            set_at seen at s look.handled there
            ∙ ap (λ n. if at == s then look.handled else n) (d.counts.seen_are settings s same few)
            ∙ ap (λ n. if home n look.key.name == s then look.handled else seen_count settings kept s) (sym same)
            ∙ sym (seen_count-saw settings kept look s);
      };
    }

-- what a look found: whether the machine can be told, and whether the counts agree
pub record Looked (part : PartView) (desk : DeskView) (stamp : ℕ) (key : Key) (may agreed : Bool) : Type 0 where
  pub may_is : may ≡ may_look part.shard.peers.hosts key
  pub agreed_is : (settings : Settings) → settings.node ≡ node_in part
      → agreed ≡ agrees settings desk.number desk.kept (look_at part desk.number stamp key)

pub looked : (part : PartView) (desk : DeskView) (stamp : ℕ) (key : Key) (hosts : List (List ℕ)) (may agreed : Bool) (number : ℕ)
    (counts : ℕ × ℕ) → may ≡ may_look hosts key → hosts ≡ part.shard.peers.hosts → number ≡ desk.number
    → counts ≡ (waiting_from part number, handled_from part number)
    → ((settings : Settings) (s : ℕ) (stands : MachineState) → settings.node.shards ≡ desk.shards
    → agreed ≡ agrees settings desk.number desk.kept
    (record { stamp = s; key = key; stands = stands; waiting = counts.0; handled = counts.1 }))
    → part.shard.peers.shards ≡ desk.shards → Looked part desk stamp key may agreed
looked part desk stamp key hosts may agreed number counts may_is hosts_are number_is counts_are agreed_is shards_are =
    let all : counts ≡ (waiting_from part desk.number, handled_from part desk.number) =
    counts_are ∙ ap (λ n. (waiting_from part n, handled_from part n)) number_is in
    record {
      may_is = may_is ∙ ap (λ hs. may_look hs key) hosts_are;
      agreed_is = λ settings node.
          agreed_is settings stamp (look_at part desk.number stamp key).stands (ap (λ (n : Node). n.shards) node ∙ shards_are)
          ∙ ap (λ (c : ℕ × ℕ). agrees settings desk.number desk.kept
          (record { stamp = stamp; key = key; stands = (look_at part desk.number stamp key).stands; waiting = c.0; handled = c.1 })) all;
    }

-- why it is refused
pub look_refused : (part : PartView) (desk : DeskView) (stamp : ℕ) (key : Key) (may agreed : Bool) → Looked part desk stamp key may agreed
    → (settings : Settings) → settings.node ≡ node_in part
    → first_of ((not may, Unknown) ∷ (not agreed, Disagree) ∷ []) ≡ look_refusal settings part desk stamp key
look_refused part desk stamp key may agreed l settings node =
    ap (λ a. first_of ((not may, Unknown) ∷ (not a, Disagree) ∷ [])) (l.agreed_is settings node)
    ∙ ap (λ m. first_of ((not m, Unknown) ∷ (not (agrees settings desk.number desk.kept (look_at part desk.number stamp key)), Disagree) ∷ [])) l.may_is

-- a fact, whatever the result
pub ok_anyway : {T E : Type 0} (r : Result T E) (P : Type 0) → P → IfOk r (λ x. P)
ok_anyway (Ok x) P p = p
ok_anyway (Err e) P p = tt

-- the same of a tell whose stamps are three
pub IsDesk-told : (number shards : ℕ) (kept : List Kept) (entries : ℕ) (told seen stamps : List ℕ) (key : Key) (event : Event)
    → length stamps ≡ 3 → IsDesk number shards kept entries told seen → home shards key.name < MAX_SHARDS → entries + 2 ≤ MAX_ENTRIES
    → IsDesk number shards (kept ++ tell_kept number stamps key event) (entries + 2)
    (set told (home shards key.name) (slice_index told (home shards key.name) + 1)) seen
IsDesk-told number shards kept entries told seen [] key event long = absurd (omega (arith, long))
IsDesk-told number shards kept entries told seen (a ∷ []) key event long = absurd (omega (arith, long))
IsDesk-told number shards kept entries told seen (a ∷ b ∷ []) key event long = absurd (omega (arith, long))
IsDesk-told number shards kept entries told seen (a ∷ b ∷ c ∷ []) key event long =
    IsDesk-tell number shards kept entries told seen a b c key event
IsDesk-told number shards kept entries told seen (a ∷ b ∷ c ∷ d ∷ rest) key event long = absurd (omega (arith, long))
