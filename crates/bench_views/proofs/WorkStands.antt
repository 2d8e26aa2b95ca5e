-- The shards of a log with one more entry of work: the one that handled the item, and the others.
use Rattle.std.proofs.Common.{◌≡◌, ◌+◌, ℕ, List, [], ◌∷◌, ◌++◌, Bool, true, false, Some, None, refl, sym, ◌∙◌, ap, arith, length, suc, zero}
use Rattle.std.specs.Prelude.{◌==◌, map, if◌then◌else◌, nat_lt, ◌≢◌}
use Rattle.std.specs.List.{list_any, position_or_len, slice_get}
use Rattle.std.specs.Str.{bytes_eq}
use Rattle.std.proofs.lemmas.Bool.Decides.{nat_tests}
use Rattle.std.proofs.lemmas.List.{append-nil, length-append, length-map}
use Rattle.sess_dir.specs.Names.{place_of}
use Rattle.tab_step.specs.declared.machine.MachineState.{MachineState}
use Rattle.bench_item.specs.declared.entry.Entry.{Entry}
use Rattle.bench_item.specs.declared.entry.Handled.{Handled}
use Rattle.bench_item.specs.declared.entry.Handled.TheVariants.{Move, Stale, TooBusy}
use Rattle.bench_item.specs.declared.item.Item.{Item}
use Rattle.bench_item.specs.declared.item.MachineItem.{MachineItem}
use Rattle.bench_item.specs.declared.key.Key.{Key}
use Rattle.bench_item.specs.declared.source.Source.{Source}
use Rattle.bench_item.specs.declared.source.Source.TheVariants.{Shard}
use Rattle.bench_item.specs.Keys.{Node, home, is_same_key}
use Rattle.bench_queue.specs.Inbox.{InboxView, next_in, worked_one}
use Rattle.bench_queue.specs.Outbox.{OutboxView, put_out}
use Rattle.bench_shard.proofs.KeyLemmas.{place-octets}
use Rattle.bench_shard.specs.Names.{key_octets}
use Rattle.bench_shard.specs.Settling.{names_left, settled_names, settled_states, states_left}
use Rattle.bench_shard.specs.Stands.{Stands}
use Rattle.bench_shard.specs.View.{ShardView, state_for}
use Rattle.bench_shard.specs.Works.{after_work, state_left}
use Rattle.bench_spec.specs.Items.{arrived, dropped, handled_posts, lifted, posts, work_posts, worked}
use Rattle.bench_spec.specs.Machines.{directory, is_work, state_at}
use Rattle.bench_spec.specs.Settings.{Settings}
use Rattle.bench_spec.proofs.AfterLemmas.{flat_map-snoc}
use Rattle.bench_views.proofs.Directories.{directory-new, directory-same}
use Rattle.bench_views.proofs.Distinct.{with_new}
use Rattle.bench_views.proofs.Handled.{keys-moved, keys-other, keys-stale, put_for-place, states-busy, states-elsewhere, states-moved, states-stale, work_entry}
use Rattle.bench_views.proofs.Keys.{octets-new}
use Rattle.bench_views.proofs.Order.{arrived-snoc, dropped-snoc, lifted-snoc, worked-snoc}
use Rattle.bench_views.proofs.Standing.{put_for, states_of}
use Rattle.bench_views.specs.Shards.{inbox_at, outbox_at}

-- one place further
first_place : (m : ℕ) → nat_lt 0 (suc m) ≡ true
first_place m = grind (arith, nat_tests)

one_more : (n m : ℕ) (b : Bool) → nat_lt n m ≡ b → nat_lt (1 + n) (suc m) ≡ b
one_more n m true is = grind (arith, nat_tests, is)
one_more n m false is = grind (arith, nat_tests, is)

next_place : (n m : ℕ) → nat_lt n m ≡ true → nat_lt (suc n) (suc m) ≡ true
next_place n m is = grind (arith, nat_tests, is)

-- an item is there where its first place is in the list
pub place-there : {X : Type 0} (p : X → Bool) (xs : List X) → nat_lt (position_or_len p xs) (length xs) ≡ list_any p xs
place-there p [] = refl
place-there p (x ∷ xs) = by (place-there p xs) (p x) refl
  where
    by : nat_lt (position_or_len p xs) (length xs) ≡ list_any p xs → (b : Bool) → p x ≡ b → nat_lt (position_or_len p (x ∷ xs)) (length (x ∷ xs)) ≡ list_any p (x ∷ xs)
    by later true is = rw is (first_place (length xs))
    by later false is = rw is (one_more (position_or_len p xs) (length xs) (list_any p xs) later)

-- the names of a directory with one more machine, unless it is there
settled_names-new : (keys : List Key) (key : Key) → settled_names (map key_octets keys) key ≡ map key_octets (with_new is_same_key key keys)
settled_names-new keys key = by (list_any (bytes_eq (key_octets key)) (map key_octets keys)) refl
  where
    n : ℕ
    n = position_or_len (bytes_eq (key_octets key)) (map key_octets keys)

    by : (b : Bool) → list_any (bytes_eq (key_octets key)) (map key_octets keys) ≡ b → settled_names (map key_octets keys) key ≡ map key_octets (with_new is_same_key key keys)
    by true there =
        let place : place_of (map key_octets keys) (key_octets key) ≡ Some n = rw (place-there (bytes_eq (key_octets key)) (map key_octets keys), there) refl in
        rw place (sym (octets-new key keys ∙ rw there refl))
    by false there =
        let place : place_of (map key_octets keys) (key_octets key) ≡ None = rw (place-there (bytes_eq (key_octets key)) (map key_octets keys), there) refl in
        rw place (sym (octets-new key keys ∙ rw there refl))

-- the machine stands so in its place, or behind the others
settled_states-put : (keys : List Key) (states : List MachineState) (key : Key) (state : MachineState) → length keys ≡ length states → settled_states (map key_octets keys) states key state ≡ put_for is_same_key key state keys states
settled_states-put keys states key state same = by (nat_lt n (length keys)) refl
  where
    n : ℕ
    n = position_or_len (λ k. is_same_key k key) keys

    by : (b : Bool) → nat_lt n (length keys) ≡ b → settled_states (map key_octets keys) states key state ≡ put_for is_same_key key state keys states
    by true is =
        let place : place_of (map key_octets keys) (key_octets key) ≡ Some n = place-octets keys key ∙ rw is refl in
        let within : nat_lt n (length states) ≡ true = rw same at is in
        rw place (sym (put_for-place is_same_key key state keys states same ∙ rw within refl))
    by false is =
        let place : place_of (map key_octets keys) (key_octets key) ≡ None = place-octets keys key ∙ rw is refl in
        let within : nat_lt n (length states) ≡ false = rw same at is in
        rw place (sym (put_for-place is_same_key key state keys states same ∙ rw within refl))

-- the names and the states of a shard that handled an item
abbrev pub LeavesNames : Node → List Entry → ShardView → MachineItem → Handled → Type 0
LeavesNames node log v item handled =
    names_left (map key_octets (directory node v.number log)) item.key (state_left v item handled)
    ≡ map key_octets (directory node v.number (log ++ work_entry v.number item handled ∷ []))

pub names-after : (node : Node) (log : List Entry) (v : ShardView) (item : MachineItem) (handled : Handled) → home node.shards item.key.name ≡ v.number → LeavesNames node log v item handled
names-after node log v item TooBusy here = ap (map key_octets) (sym (directory-same node v.number log (work_entry v.number item TooBusy) refl))
names-after node log v item (Stale state) here =
    settled_names-new (directory node v.number log) item.key
    ∙ ap (map key_octets) (sym (directory-new node v.number log (work_entry v.number item (Stale state)) item.key (keys-stale node v.number v.number item state here)))
names-after node log v item (Move moved) here =
    settled_names-new (directory node v.number log) item.key
    ∙ ap (map key_octets) (sym (directory-new node v.number log (work_entry v.number item (Move moved)) item.key (keys-moved node v.number v.number item moved here)))

abbrev pub LeavesStates : Node → List Entry → ShardView → MachineItem → Handled → Type 0
LeavesStates node log v item handled =
    states_left (map key_octets (directory node v.number log)) (states_of node v.number log) item.key (state_left v item handled)
    ≡ states_of node v.number (log ++ work_entry v.number item handled ∷ [])

pub states-after : (node : Node) (log : List Entry) (v : ShardView) (item : MachineItem) (handled : Handled) → home node.shards item.key.name ≡ v.number → state_for v item.key ≡ state_at node log item.key → LeavesStates node log v item handled
states-after node log v item TooBusy here before = sym (states-busy node v.number v.number log item)
states-after node log v item (Stale state) here before =
    ap (settled_states (map key_octets (directory node v.number log)) (states_of node v.number log) item.key) before
    ∙ settled_states-put (directory node v.number log) (states_of node v.number log) item.key (state_at node log item.key) (sym (length-map (directory node v.number log) (state_at node log)))
    ∙ sym (states-stale node v.number log item state here)
states-after node log v item (Move moved) here before =
    settled_states-put (directory node v.number log) (states_of node v.number log) item.key moved.after (sym (length-map (directory node v.number log) (state_at node log)))
    ∙ sym (states-moved node v.number log item moved here)

itself : (n : ℕ) → (n == n) ≡ true
itself n = grind (arith, nat_tests)

differs : (a b : ℕ) → a ≢ b → (a == b) ≡ false
differs a b h = grind (arith, nat_tests, h)

-- a number of items is one of those that are there, where there is one at that place
within : {X : Type 0} (xs : List X) (n : ℕ) (x : X) → slice_get xs n ≡ Some x → nat_lt n (length xs) ≡ true
within [] n x e = cc
within (y ∷ xs) zero x e = first_place (length xs)
within (y ∷ xs) (suc n) x e = next_place n (length xs) (within xs n x e)

-- the fields of views
abbrev in_with : List MachineItem → ℕ → InboxView
in_with items worked = record { items = items; worked = worked }

abbrev pub out_with : List Item → ℕ → ℕ → OutboxView
out_with posts lifted dropped = record { posts = posts; lifted = lifted; dropped = dropped }

in-fields : (xs ys : List MachineItem) (m n : ℕ) → xs ≡ ys → m ≡ n → in_with xs m ≡ in_with ys n
in-fields xs ys m n a b = rw (a, b) refl

pub out-fields : (ps qs : List Item) (l m d n : ℕ) → ps ≡ qs → l ≡ m → d ≡ n → out_with ps l d ≡ out_with qs m n
out-fields ps qs l m d n a b c = rw (a, b, c) refl

-- what came to a shard does not change, nor what was lifted and dropped
arrived-after : (settings : Settings) (log : List Entry) (k shard : ℕ) (item : MachineItem) (handled : Handled) → arrived settings.node (log ++ work_entry shard item handled ∷ []) k ≡ arrived settings.node log k
arrived-after settings log k shard item handled = arrived-snoc settings.node log (work_entry shard item handled) k ∙ append-nil (arrived settings.node log k)

pub lifted-after : (log : List Entry) (source : Source) (shard : ℕ) (item : MachineItem) (handled : Handled) → lifted (log ++ work_entry shard item handled ∷ []) source ≡ lifted log source
lifted-after log source shard item handled = lifted-snoc log (work_entry shard item handled) source ∙ append-nil (lifted log source)

pub dropped-after : (log : List Entry) (source : Source) (shard : ℕ) (item : MachineItem) (handled : Handled) → dropped (log ++ work_entry shard item handled ∷ []) source ≡ dropped log source
dropped-after log source shard item handled = dropped-snoc log (work_entry shard item handled) source ∙ append-nil (dropped log source)

-- the oldest item is handled
inbox-worked : (settings : Settings) (log : List Entry) (k : ℕ) (item : MachineItem) (handled : Handled) → next_in (inbox_at settings log k) ≡ Some item → worked_one (inbox_at settings log k) ≡ inbox_at settings (log ++ work_entry k item handled ∷ []) k
inbox-worked settings log k item handled next =
    rw (within (arrived settings.node log k) (length (worked log k)) item next)
    (in-fields (arrived settings.node log k) (arrived settings.node (log ++ work_entry k item handled ∷ []) k) (length (worked log k) + 1) (length (worked (log ++ work_entry k item handled ∷ []) k))
    (sym (arrived-after settings log k k item handled)) (sym (ap length more ∙ length-append (worked log k) (item ∷ []))))
  where
    more : worked (log ++ work_entry k item handled ∷ []) k ≡ worked log k ++ item ∷ []
    more = worked-snoc log (work_entry k item handled) k ∙ ap (λ b. worked log k ++ (if b then item ∷ [] else [])) (itself k)

inbox-elsewhere : (settings : Settings) (log : List Entry) (k shard : ℕ) (item : MachineItem) (handled : Handled) → shard ≢ k → inbox_at settings log k ≡ inbox_at settings (log ++ work_entry shard item handled ∷ []) k
inbox-elsewhere settings log k shard item handled apart =
    in-fields (arrived settings.node log k) (arrived settings.node (log ++ work_entry shard item handled ∷ []) k) (length (worked log k)) (length (worked (log ++ work_entry shard item handled ∷ []) k))
    (sym (arrived-after settings log k shard item handled)) (ap length (sym same))
  where
    same : worked (log ++ work_entry shard item handled ∷ []) k ≡ worked log k
    same = worked-snoc log (work_entry shard item handled) k ∙ ap (λ b. worked log k ++ (if b then item ∷ [] else [])) (differs shard k apart) ∙ append-nil (worked log k)

-- what it leads to is put out
outbox-worked : (settings : Settings) (log : List Entry) (k : ℕ) (item : MachineItem) (handled : Handled) → put_out (outbox_at settings log (Shard k)) (handled_posts settings.node handled item) ≡ outbox_at settings (log ++ work_entry k item handled ∷ []) (Shard k)
outbox-worked settings log k item handled =
    out-fields (posts settings log (Shard k) ++ handled_posts settings.node handled item) (posts settings (log ++ work_entry k item handled ∷ []) (Shard k)) (length (lifted log (Shard k))) (length (lifted (log ++ work_entry k item handled ∷ []) (Shard k))) (length (dropped log (Shard k))) (length (dropped (log ++ work_entry k item handled ∷ []) (Shard k)))
    (sym more) (ap length (sym (lifted-after log (Shard k) k item handled))) (ap length (sym (dropped-after log (Shard k) k item handled)))
  where
    more : posts settings (log ++ work_entry k item handled ∷ []) (Shard k) ≡ posts settings log (Shard k) ++ handled_posts settings.node handled item
    more =
        flat_map-snoc (λ e. if is_work k e.step then work_posts settings.node e else []) log (work_entry k item handled)
        ∙ ap (λ b. posts settings log (Shard k) ++ (if b then (handled_posts settings.node handled item ++ []) ++ [] else [])) (itself k)
        ∙ ap (λ ps. posts settings log (Shard k) ++ ps) (append-nil (handled_posts settings.node handled item ++ []) ∙ append-nil (handled_posts settings.node handled item))

outbox-elsewhere : (settings : Settings) (log : List Entry) (k shard : ℕ) (item : MachineItem) (handled : Handled) → shard ≢ k → outbox_at settings log (Shard k) ≡ outbox_at settings (log ++ work_entry shard item handled ∷ []) (Shard k)
outbox-elsewhere settings log k shard item handled apart =
    out-fields (posts settings log (Shard k)) (posts settings (log ++ work_entry shard item handled ∷ []) (Shard k)) (length (lifted log (Shard k))) (length (lifted (log ++ work_entry shard item handled ∷ []) (Shard k))) (length (dropped log (Shard k))) (length (dropped (log ++ work_entry shard item handled ∷ []) (Shard k)))
    (sym same) (ap length (sym (lifted-after log (Shard k) shard item handled))) (ap length (sym (dropped-after log (Shard k) shard item handled)))
  where
    same : posts settings (log ++ work_entry shard item handled ∷ []) (Shard k) ≡ posts settings log (Shard k)
    same =
        flat_map-snoc (λ e. if is_work k e.step then work_posts settings.node e else []) log (work_entry shard item handled)
        ∙ ap (λ b. posts settings log (Shard k) ++ (if b then work_posts settings.node (work_entry shard item handled) else [])) (differs shard k apart)
        ∙ append-nil (posts settings log (Shard k))

-- the shard that handled its oldest item is what the log says with that entry
pub stands-worked : (settings : Settings) (log : List Entry) (v : ShardView) (item : MachineItem) (handled : Handled) (own : List Item) → home settings.node.shards item.key.name ≡ v.number → next_in v.inbox ≡ Some item → state_for v item.key ≡ state_at settings.node log item.key → own ≡ handled_posts settings.node handled item → Stands settings log v → Stands settings (log ++ work_entry v.number item handled ∷ []) (after_work v item handled own)
stands-worked settings log v item handled own here next before posts_are s = record {
  here = s.here;
  peers = s.peers;
  names = ap (λ ns. names_left ns item.key (state_left v item handled)) s.names ∙ names-after settings.node log v item handled here;
  states =
      ap (λ ns. states_left ns v.states item.key (state_left v item handled)) s.names
      ∙ ap (λ ss. states_left (map key_octets (directory settings.node v.number log)) ss item.key (state_left v item handled)) s.states
      ∙ states-after settings.node log v item handled here before;
  inbox = ap worked_one s.inbox ∙ inbox-worked settings log v.number item handled (sym (ap next_in s.inbox) ∙ next);
  outbox = ap (λ o. put_out o own) s.outbox ∙ ap (put_out (outbox_at settings log (Shard v.number))) posts_are ∙ outbox-worked settings log v.number item handled;
}

-- and so is each other shard, which stays as it was
pub stands-elsewhere : (settings : Settings) (log : List Entry) (k : ℕ) (v : ShardView) (item : MachineItem) (handled : Handled) → home settings.node.shards item.key.name ≡ k → k ≢ v.number → Stands settings log v → Stands settings (log ++ work_entry k item handled ∷ []) v
stands-elsewhere settings log k v item handled here apart s = record {
  here = s.here;
  peers = s.peers;
  names = s.names ∙ ap (map key_octets) (sym (directory-same settings.node v.number log (work_entry k item handled) (keys-other settings.node k v.number item handled (λ there. apart (sym here ∙ there)))));
  states = s.states ∙ sym (states-elsewhere settings.node k v.number log item handled (λ there. apart (sym here ∙ there)));
  inbox = s.inbox ∙ inbox-elsewhere settings log v.number k item handled apart;
  outbox = s.outbox ∙ outbox-elsewhere settings log v.number k item handled apart;
}
