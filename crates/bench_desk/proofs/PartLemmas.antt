-- A shard's part with one item more.
use Rattle.std.proofs.Common.{◌≡◌, ◌∙◌, ℕ, List, [], ◌∷◌, ◌++◌, Bool, true, length, map, refl, ap, sym, arith}
use Rattle.std.specs.Prelude.{flat_map, filter, option_to_list, if◌then◌else◌}
use Rattle.std.proofs.lemmas.Bool.{cond-true, eq-eqb}
use Rattle.std.proofs.lemmas.Grind.{flat_map-append}
use Rattle.std.proofs.lemmas.List.{append-nil, map-append}
use Rattle.bench_item.specs.Keys.{Node, home, node_of}
use Rattle.bench_item.specs.declared.entry.Entry.{Entry}
use Rattle.bench_item.specs.declared.item.MachineItem.{MachineItem}
use Rattle.bench_item.specs.declared.source.Source.{Source}
use Rattle.bench_item.specs.declared.step.Step.{Step}
use Rattle.bench_item.specs.declared.step.Step.TheVariants.{Joined, Dialled, Came, Lost, Told, Fired, Lift, Drop, Work}
use Rattle.bench_move.specs.Tables.{Tables}
use Rattle.bench_queue.specs.Inbox.{InboxView, put_in}
use Rattle.bench_shard.specs.View.{ShardView, with_inbox}
use Rattle.bench_spec.specs.Items.{arrived, is_drop, worked}
use Rattle.bench_spec.specs.Machines.{is_for, is_work, machine_item}
use Rattle.bench_spec.specs.Merged.{Stamped, arrivals, arrivals_in}
use Rattle.bench_shard.specs.Stands.{HasMachines}
use Rattle.bench_views.proofs.Handled.{moves-none}
use Rattle.bench_desk.specs.Parts.{IsKept, drop_entry}
use Rattle.bench_desk.proofs.MachineLemmas.{machines-still, runs-still}
use Rattle.bench_parts.specs.Views.{stamped_of}

-- the one item, where it passes
kept_one : {X : Type 0} (p : X → Bool) (x : X) → p x ≡ true → filter p (x ∷ []) ≡ x ∷ []
kept_one p x e = cond-true (p x) (x ∷ []) [] e

-- what came to the shard with it
pub arrived-drop : (node : Node) (log : List Entry) (n : ℕ) (source : Source) (item : MachineItem) → home node.shards item.key.name ≡ n
    → arrived node (log ++ drop_entry source item ∷ []) n ≡ arrived node log n ++ item ∷ []
arrived-drop node log n source item here =
    flat_map-append (λ e. if is_drop e.step then filter (is_for node n) (flat_map machine_item (option_to_list e.item)) else []) log
    (drop_entry source item ∷ [])
    ∙ ap (λ xs. arrived node log n ++ (xs ++ []))
    (kept_one (is_for node n) item (eq-eqb (home node.shards item.key.name) n here))

-- and who put it there
pub arrivals-drop : (node : Node) (log : List Entry) (n : ℕ) (source : Source) (item : MachineItem) → home node.shards item.key.name ≡ n
    → arrivals node (log ++ drop_entry source item ∷ []) n ≡ arrivals node log n ++ (source, item) ∷ []
arrivals-drop node log n source item here =
    flat_map-append (arrivals_in node n) log (drop_entry source item ∷ [])
    ∙ ap (λ xs. arrivals node log n ++ (map (λ i. (source, i)) xs ++ []))
    (kept_one (is_for node n) item (eq-eqb (home node.shards item.key.name) n here))

-- no more is handled
pub worked-drop : (log : List Entry) (n : ℕ) (source : Source) (item : MachineItem)
    → worked (log ++ drop_entry source item ∷ []) n ≡ worked log n
worked-drop log n source item =
    flat_map-append (λ e. if is_work n e.step then flat_map machine_item (option_to_list e.item) else []) log
    (drop_entry source item ∷ [])
    ∙ append-nil (worked log n)

abbrev inbox_of : List MachineItem → ℕ → InboxView
inbox_of items count = record { items = items; worked = count }

-- what is kept beside the shard is what the longer log says
pub IsKept-drop : (tables : Tables) (v : ShardView) (sources : List Source) (log : List Entry) (source : Source) (item : MachineItem)
    → IsKept tables v sources log → home v.peers.shards item.key.name ≡ v.number
    → IsKept tables (with_inbox v (put_in v.inbox (item ∷ []))) (sources ++ source ∷ []) (log ++ drop_entry source item ∷ [])
IsKept-drop tables v sources log source item k here =
    let node = node_of tables.laws v.peers in
    let e = drop_entry source item in
    let machines : HasMachines node (log ++ e ∷ []) v = machines-still node log e v (λ shard. refl) (λ key. moves-none key e refl) k.machines in
    record {
      machines = record { names = machines.names; states = machines.states };
      runs = runs-still tables v.peers log e (λ shard. refl) (λ key. moves-none key e refl) k.runs;
      inbox =
          ap (λ (b : InboxView). put_in b (item ∷ [])) k.inbox
          ∙ ap (λ xs. inbox_of xs (length (worked log v.number))) (sym (arrived-drop node log v.number source item here))
          ∙ ap (λ xs. inbox_of (arrived node (log ++ drop_entry source item ∷ []) v.number) (length xs)) (sym (worked-drop log v.number source item));
      sources_are =
          ap (λ xs. xs ++ source ∷ []) k.sources_are
          ∙ sym (map-append (λ (p : Source × MachineItem). p.0) (arrivals node log v.number) ((source, item) ∷ []))
          ∙ ap (map (λ (p : Source × MachineItem). p.0)) (sym (arrivals-drop node log v.number source item here));
    }

-- one more entry with its stamp
pub stamped_of-snoc : (ss : List ℕ) (es : List Entry) (s : ℕ) (e : Entry) → length ss ≡ length es
    → stamped_of (ss ++ s ∷ []) (es ++ e ∷ []) ≡ stamped_of ss es ++ record { stamp = s; entry = e } ∷ []
stamped_of-snoc [] [] s e same = refl
stamped_of-snoc [] (y ∷ es) s e same = absurd (omega (arith, same))
stamped_of-snoc (x ∷ ss) [] s e same = absurd (omega (arith, same))
stamped_of-snoc (x ∷ ss) (y ∷ es) s e same =
    ap (λ (xs : List Stamped). record { stamp = x; entry = y } ∷ xs) (stamped_of-snoc ss es s e (omega (arith, same)))

-- the entries alone
pub entries-stamped_of : (ss : List ℕ) (es : List Entry) → length ss ≡ length es → map (λ s. s.entry) (stamped_of ss es) ≡ es
entries-stamped_of [] [] same = refl
entries-stamped_of [] (y ∷ es) same = absurd (omega (arith, same))
entries-stamped_of (x ∷ ss) [] same = refl
entries-stamped_of (x ∷ ss) (y ∷ es) same = ap (λ xs. y ∷ xs) (entries-stamped_of ss es (omega (arith, same)))

-- of who put items there, the items alone
arrived_in : (node : Node) (n : ℕ) (step : Step) (e : Entry) → e.step ≡ step
    → map (λ (p : Source × MachineItem). p.1) (arrivals_in node n e)
    ≡ (if is_drop e.step then filter (is_for node n) (flat_map machine_item (option_to_list e.item)) else [])
arrived_in node n Joined e is = rw is refl
arrived_in node n (Dialled line) e is = rw is refl
arrived_in node n (Came line piece) e is = rw is refl
arrived_in node n (Lost line) e is = rw is refl
arrived_in node n (Told desk key event) e is = rw is refl
arrived_in node n (Fired machine generation) e is = rw is refl
arrived_in node n (Lift source) e is = rw is refl
arrived_in node n (Drop source) e is = rw is (each_one source (filter (is_for node n) (flat_map machine_item (option_to_list e.item))))
  where
    each_one : (source : Source) (items : List MachineItem) → map (λ (p : Source × MachineItem). p.1) (map (λ (item : MachineItem). (source, item)) items) ≡ items
    each_one source [] = refl
    each_one source (i ∷ items) = ap (λ xs. i ∷ xs) (each_one source items)
arrived_in node n (Work shard) e is = rw is refl

pub arrivals-items : (node : Node) (log : List Entry) (n : ℕ)
    → map (λ (p : Source × MachineItem). p.1) (arrivals node log n) ≡ arrived node log n
arrivals-items node [] n = refl
arrivals-items node (e ∷ log) n =
    map-append (λ (p : Source × MachineItem). p.1) (arrivals_in node n e) (arrivals node log n)
    ∙ ap (λ xs. xs ++ map (λ (p : Source × MachineItem). p.1) (arrivals node log n)) (arrived_in node n e.step e refl)
    ∙ ap (λ xs. (if is_drop e.step then filter (is_for node n) (flat_map machine_item (option_to_list e.item)) else []) ++ xs)
    (arrivals-items node log n)

-- the stamps alone
pub stamps-stamped_of : (ss : List ℕ) (es : List Entry) → length ss ≡ length es → map (λ s. s.stamp) (stamped_of ss es) ≡ ss
stamps-stamped_of [] [] same = refl
stamps-stamped_of [] (y ∷ es) same = refl
stamps-stamped_of (x ∷ ss) [] same = absurd (omega (arith, same))
stamps-stamped_of (x ∷ ss) (y ∷ es) same = ap (λ xs. x ∷ xs) (stamps-stamped_of ss es (omega (arith, same)))
